-- An accepted plan is in range, and its image fits the array.
use mathlib.Core.Path.{sym, ◌∙◌}
use lib.Seq.{length-take-le}
use Rattle.plans.specs.Sizes.{fine_ranged}
use Rattle.fresh_parts.specs.Accepted.{accepted}
use Rattle.runner_files.proofs.Built.{image_fits}
use Rattle.runner_files.proofs.run_plan.Goals as goal

pub shape_of_plan-s-requires : goal.shape_of_plan-s-requires
shape_of_plan-s-requires c = fine_ranged _ c.requires

pub slice_bounds-image-end : goal.slice_bounds-image-end
slice_bounds-image-end c =
    let p = accepted _ _ c.shape_of_plan-s.ensures.value c.requires in
    image_fits _ _ p _ c.total_of-size.ensures

pub slice_bounds-run_fresh-end : goal.slice_bounds-run_fresh-end
slice_bounds-run_fresh-end c =
    let p = accepted _ _ c.shape_of_plan-s.ensures.value c.requires in
    sym (length-take-le _ _ (image_fits _ _ p _ c.total_of-size.ensures))

pub run_fresh-requires : goal.run_fresh-requires
run_fresh-requires c =
    let p = accepted _ _ c.shape_of_plan-s.ensures.value c.requires in
    let t = c.total_of-size.ensures in
    record { plan = p; im_len = length-take-le _ _ (image_fits _ _ p _ t) ∙ t }

-- An accepted plan is in range, and its image fits the array.
use Rattle.std.proofs.Common.{sym, length-take-le}
use Rattle.plans.specs.Sizes.{fine_ranged}
use Rattle.fresh_parts.specs.Accepted.{accepted}
use Rattle.reporter.proofs.Few.{image_fits}
use Rattle.reporter.proofs.report_plan.Goals as goal

pub shape_of_plan-s-requires : goal.shape_of_plan-s-requires
shape_of_plan-s-requires c = fine_ranged _ c.requires

pub slice_bounds-image-end : goal.slice_bounds-image-end
slice_bounds-image-end c = image_fits _ _ (accepted _ _ c.shape_of_plan-s.ensures.value c.requires) _ c.total_of-size.ensures

pub slice_bounds-report_fresh-end : goal.slice_bounds-report_fresh-end
slice_bounds-report_fresh-end c =
    sym (length-take-le _ _ (image_fits _ _ (accepted _ _ c.shape_of_plan-s.ensures.value c.requires) _ c.total_of-size.ensures))

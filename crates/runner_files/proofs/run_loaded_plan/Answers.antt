-- What was read lies in its buffer, and a plan runs only where the verdict on it is fine.
use mathlib.Core.Path.{sym}
use native.Mathlib.Omega.{arith}
use lib.Seq.{length-take-le}
use Rattle.runner_files.proofs.run_loaded_plan.Goals as goal

pub read_plan-plan-requires : goal.read_plan-plan-requires
read_plan-plan-requires c =
    let p = c.requires in
    record { found_in_bounds = p.inside; enough_in_bounds = omega (arith, p.bytes); buffer_len_bound = omega (arith, p.bytes); buffer_len_bound_2 = p.full }

pub slice_bounds-words-end : goal.slice_bounds-words-end
slice_bounds-words-end c = c.read_plan-plan.ensures.inside

pub slice_bounds-run_plan-end : goal.slice_bounds-run_plan-end
slice_bounds-run_plan-end c = sym (length-take-le _ _ c.read_plan-plan.ensures.inside)

pub run_plan-requires : goal.run_plan-requires
run_plan-requires c = c.read_plan-plan.ensures.passes c.in-Ok.is

pub slice_bounds-words-end-in-Err : goal.slice_bounds-words-end-in-Err
slice_bounds-words-end-in-Err c = c.read_plan-plan.ensures.inside

pub slice_bounds-refuse_plan-end : goal.slice_bounds-refuse_plan-end
slice_bounds-refuse_plan-end c = sym (length-take-le _ _ c.read_plan-plan.ensures.inside)

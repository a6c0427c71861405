-- Each program ends where the next begins, and all lie in the plan.
use Rattle.std.proofs.Common.{◌+◌, ◌*◌, ◌≤◌}
use Rattle.planner.specs.Parts.{leading, pair, most_program}
use Rattle.planner.proofs.put_tasks.Given as goal

abbrev pub invariant-loop-k : goal.invariant-loop-k
invariant-loop-k l = (leading + pair * l.n ≤ l.at) × (l.at ≤ leading + pair * l.n + most_program * l.k)

-- Each round takes one tick or a row of orders of the first task, until nobody is ready or all have passed.
use Prim.Native.Nat.{◌-◌}
use Rattle.ticks.specs.Seated.{First}
use Rattle.ticks.specs.Rounds.{answer_of}
use Rattle.ticks.proofs.Telling.{Goes}
use Rattle.ticks.proofs.ticks.Given as goal

abbrev pub invariant-loop-taken : goal.invariant-loop-taken
invariant-loop-taken l = Goes l.s l.initial.im l.initial.counts l.n l.taken (answer_of l.s l.im l.x l.came) l.im l.counts × First l.s l.im l.x

abbrev pub decreases-loop-taken : goal.decreases-loop-taken
decreases-loop-taken l = l.n - l.taken

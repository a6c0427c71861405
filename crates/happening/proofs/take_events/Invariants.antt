-- So many events are taken and their ticks counted, and the rest of the list is left.
use Prim.Native.Nat.{◌-◌, ◌≤◌}
use Rattle.laws.specs.Events.{Lawful}
use Rattle.happening.proofs.Taking.{TakenFrom}
use Rattle.happening.proofs.Tallying.{Books}
use Rattle.happening.proofs.take_events.Given as goal

abbrev pub invariant-loop-taken : goal.invariant-loop-taken
invariant-loop-taken l = Lawful l.s l.im × TakenFrom l.s l.initial.im l.events l.taken l.last l.im × Books l.s l.initial.im l.events l.initial.counts l.taken l.im l.counts × (l.taken ≤ l.count)

abbrev pub decreases-loop-taken : goal.decreases-loop-taken
decreases-loop-taken l = l.count - l.taken

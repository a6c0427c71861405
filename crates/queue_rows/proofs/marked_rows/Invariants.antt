-- The rows before that at at are right.
use Prim.Native.Nat.{◌-◌}
use Rattle.queue_rows.specs.BufferRows.{RightUpTo}
use Rattle.queue_rows.proofs.marked_rows.Given as goal

abbrev pub invariant-loop-at : goal.invariant-loop-at
invariant-loop-at l = RightUpTo l.im l.initial.at l.end l.given l.messages l.at

abbrev pub decreases-loop-at : goal.decreases-loop-at
decreases-loop-at l = l.end.0 - l.at.0

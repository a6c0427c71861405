-- The rows before that at at were never used.
use Prim.Native.Nat.{◌-◌}
use Rattle.paper.specs.declared.Place.{Place}
use Rattle.queue_rows.specs.BufferRows.{RightUpTo}
use Rattle.queue_rows.proofs.first_used.Given as goal

abbrev pub invariant-loop-at : goal.invariant-loop-at
invariant-loop-at l = (messages : Place) → RightUpTo l.im l.initial.at l.end l.given messages l.at

abbrev pub decreases-loop-at : goal.decreases-loop-at
decreases-loop-at l = l.end.0 - l.at.0

-- The rows before that at at are right.
use Rattle.paper.specs.Image.{place_at}
use Rattle.queue_rows.specs.BufferRows.{RightUpTo}
use Rattle.queue_rows.proofs.short_rows.Given as goal

abbrev pub invariant-loop-at : goal.invariant-loop-at
invariant-loop-at l = RightUpTo l.im l.fn.from l.fn.end l.given l.messages (place_at l.at)

-- The words before the next are below m.
use Rattle.queue_rows.proofs.Rows.{Below}
use Rattle.queue_rows.proofs.slots_below.Given as goal

abbrev pub invariant-loop : goal.invariant-loop
invariant-loop l = Below l.im l.first l.given l.from l.m l.slot l.counter

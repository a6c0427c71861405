-- The queues before row k are written.
use Rattle.paper.specs.Plans.{fresh_queue}
use Rattle.fresh_parts.proofs.Repeating.{FirstRows}
use Rattle.fresh_parts.proofs.put_queues.Given as goal

abbrev pub invariant-loop-k : goal.invariant-loop-k
invariant-loop-k l = FirstRows (λ i. fresh_queue l.capacity) l.initial.out l.initial.next.0 l.k l.next.0 l.out

-- The tasks before k are written.
use Rattle.paper.specs.Plans.{fresh_row}
use Rattle.paper.specs.declared.Part.{Part}
use Rattle.fresh_parts.proofs.Repeating.{FirstRows}
use Rattle.fresh_parts.proofs.put_tasks.Given as goal

abbrev pub invariant-loop-k : goal.invariant-loop-k
invariant-loop-k l = FirstRows (fresh_row l.fn.s l.plan Part.TaskTable) l.initial.out l.initial.next.0 l.k l.next.0 l.out

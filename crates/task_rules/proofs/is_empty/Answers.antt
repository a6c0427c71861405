-- A queue is empty just where its count is 0.
use Rattle.std.proofs.Common.{rules}
use Rattle.paper.specs.Queues.{empty}
use Rattle.task_rules.proofs.is_empty.Goals as goal

pub returns : goal.returns
unfolding empty
returns c = search rules

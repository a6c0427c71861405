-- A queue is full just where its count is its capacity.
use Rattle.std.proofs.Common.{rules}
use Rattle.paper.specs.Queues.{full}
use Rattle.task_rules.proofs.is_full.Goals as goal

pub returns : goal.returns
unfolding full
returns c = search rules

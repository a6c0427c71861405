-- The rules of the task's buffers hold already, so the other four decide.
use Rattle.std.proofs.Common.{rules}
use Rattle.paper.specs.Tests.{task_holds}
use Rattle.inspect.proofs.task_holds.Goals as goal

pub returns : goal.returns
unfolding task_holds
returns c = search rules

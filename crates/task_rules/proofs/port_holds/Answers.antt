-- The port's two words and the output buffer are tested as in the definition.
use Rattle.std.proofs.Common.{rules}
use Rattle.paper.specs.Tests.{port_holds}
use Rattle.task_rules.proofs.port_holds.Goals as goal

pub returns : goal.returns
unfolding port_holds
returns c = search rules

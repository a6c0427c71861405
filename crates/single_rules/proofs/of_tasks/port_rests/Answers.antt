-- Tested as in the definition.
use Rattle.std.proofs.Common.{rules}
use Rattle.single_rules.specs.Each.{port_idle}
use Rattle.single_rules.proofs.of_tasks.port_rests.Goals as goal

pub returns : goal.returns
unfolding port_idle
returns c = search rules

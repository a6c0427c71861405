-- Tested as in the definition.
use Rattle.std.proofs.Common.{rules}
use Rattle.single_rules.specs.Each.{port_within}
use Rattle.single_rules.proofs.of_tasks.port_ranged.Goals as goal

pub returns : goal.returns
unfolding port_within
returns c = search rules

-- Tested as in the definition.
use Rattle.std.proofs.Common.{rules}
use Rattle.single_rules.specs.Each.{fields_within}
use Rattle.single_rules.proofs.of_tasks.fields_ranged.Goals as goal

pub returns : goal.returns
unfolding fields_within
returns c = search rules

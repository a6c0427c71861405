-- Tested as in the definition.
use Rattle.std.proofs.Common.{rules}
use Rattle.single_rules.specs.Each.{stands}
use Rattle.single_rules.proofs.of_tasks.stands_for_output.Goals as goal

pub returns : goal.returns
unfolding stands
returns c = search rules

-- Tested as in the definition.
use Rattle.std.proofs.Common.{rules}
use Rattle.single_rules.specs.Each.{known}
use Rattle.single_rules.proofs.of_tasks.status_known.Goals as goal

pub returns : goal.returns
unfolding known
returns c = search rules

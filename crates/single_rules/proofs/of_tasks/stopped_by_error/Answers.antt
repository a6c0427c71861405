-- Tested as in the definition.
use Rattle.std.proofs.Common.{rules}
use Rattle.single_rules.specs.Each.{stopped}
use Rattle.single_rules.proofs.of_tasks.stopped_by_error.Goals as goal

pub returns : goal.returns
unfolding stopped
returns c = search rules

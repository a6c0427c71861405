-- Tested as in the definition.
use Rattle.std.proofs.Common.{rules}
use Rattle.single_rules.specs.Each.{one_at_most}
use Rattle.single_rules.proofs.of_tasks.never_both.Goals as goal

pub returns : goal.returns
unfolding one_at_most
returns c = search rules

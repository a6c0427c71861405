-- Tested as in the definition.
use Rattle.std.proofs.Common.{rules}
use Rattle.single_rules.specs.Each.{ends_below}
use Rattle.single_rules.proofs.of_queues.ends_inside.Goals as goal

pub returns : goal.returns
unfolding ends_below
returns c = search rules

-- Tested as in the definition.
use Rattle.std.proofs.Common.{rules}
use Rattle.single_rules.specs.Each.{length_within}
use Rattle.single_rules.proofs.of_queues.length_inside.Goals as goal

pub returns : goal.returns
unfolding length_within
returns c = search rules

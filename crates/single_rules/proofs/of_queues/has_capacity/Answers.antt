-- Tested as in the definition.
use Rattle.std.proofs.Common.{rules}
use Rattle.single_rules.specs.Each.{headers_own}
use Rattle.single_rules.proofs.of_queues.has_capacity.Goals as goal

pub returns : goal.returns
unfolding headers_own
returns c = search rules

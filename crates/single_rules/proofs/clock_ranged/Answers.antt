-- The clock is compared with S.
use Rattle.std.proofs.Common.{rules}
use Rattle.single_rules.specs.Each.{clock_within}
use Rattle.single_rules.proofs.clock_ranged.Goals as goal

pub returns : goal.returns
unfolding clock_within
returns c = search rules

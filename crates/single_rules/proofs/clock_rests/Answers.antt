-- The ready queue and the clock are tested as in the definition.
use Rattle.std.proofs.Common.{rules}
use Rattle.single_rules.specs.Each.{clock_idle}
use Rattle.single_rules.proofs.clock_rests.Goals as goal

pub returns : goal.returns
unfolding clock_idle
returns c = search rules

-- The sums stay below 2 ^ 64, and the quotient is the definition's.
use Rattle.shares.specs.Percent.{percent}
use mathlib.Core.Path.{refl}
use Rattle.shares.proofs.hundredths.Goals as goal

pub returns : goal.returns
unfolding percent
returns c = refl

-- The head names a slot that lies in the image, and the word there is the first.
use mathlib.Core.Path.{refl}
use Rattle.rings.specs.Ring.{first_at}
use Rattle.rings.proofs.first_at.Goals as goal

pub returns : goal.returns
unfolding first_at
returns c = refl

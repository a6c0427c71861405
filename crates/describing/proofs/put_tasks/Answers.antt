-- Each task that is shown is one of the image's.
use native.Mathlib.Omega.{arith}
use Rattle.laws.specs.Sound.{sound_sized, sized_few}
use Rattle.describing.proofs.put_tasks.Goals as goal

pub overflow_cast-k : goal.overflow_cast-k
overflow_cast-k g c = omega (arith, sized_few _ _ (sound_sized _ _ c.requires))

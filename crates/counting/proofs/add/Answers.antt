-- There is room at that place, so the count does not wrap.
use mathlib.Core.Path.{refl}
use native.Mathlib.Omega.{arith}
use Rattle.paper.specs.Counts.{grown}
use Rattle.counting.proofs.Counting.{room_fits}
use Rattle.counting.proofs.add.Goals as goal

pub overflow_cast-counts : goal.overflow_cast-counts
overflow_cast-counts c = omega (arith, room_fits _ _ _ c.requires.room_at c.requires.k_in_bounds)

pub overflow_add-counts : goal.overflow_add-counts
overflow_add-counts c = omega (arith, room_fits _ _ _ c.requires.room_at c.requires.k_in_bounds)

pub returns : goal.returns
unfolding grown
returns c = refl

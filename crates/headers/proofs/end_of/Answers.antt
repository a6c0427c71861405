-- The end is the start and all rows, and it is small because rows and width are.
use native.Mathlib.Omega.{arith}
use mathlib.Core.Path.{refl}
use Rattle.headers.proofs.Tested.{part_small}
use Rattle.headers.proofs.end_of.Goals as goal

pub overflow_mul-result : goal.overflow_mul-result
overflow_mul-result c = omega (arith, part_small _ _ c.requires.1 c.requires.2)

pub overflow_add-result : goal.overflow_add-result
overflow_add-result c = let p = c.requires in omega (arith, part_small _ _ p.1 p.2)

pub returns : goal.returns
returns c = let p = c.requires in (refl, omega (arith, part_small _ _ p.1 p.2))

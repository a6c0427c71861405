-- T is where the segments start and their words, and both are small enough to add.
use native.Mathlib.Omega.{arith}
use Rattle.plans.proofs.Measured.{total_made, total_small}
use Rattle.plans.proofs.total_of.Goals as goal

pub overflow_add-result : goal.overflow_add-result
overflow_add-result c = omega (arith, total_small _ c.requires)

pub returns : goal.returns
returns c = total_made _ c.requires

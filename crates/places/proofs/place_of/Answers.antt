-- The code's sum is the place of the cell, and small.
use mathlib.Core.Path.{ap}
use native.Mathlib.Omega.{arith}
use Rattle.paper.specs.Image.{place_at}
use Rattle.laws.specs.Places.{placed}
use Rattle.places.proofs.place_of.Goals as goal

pub overflow_mul-result : goal.overflow_mul-result
overflow_mul-result c = omega (arith, placed _ c.args.c _ _ c.requires.fit c.requires.valid c.start_of.ensures c.width_of.ensures)

pub overflow_add-result : goal.overflow_add-result
overflow_add-result c = omega (arith, placed _ c.args.c _ _ c.requires.fit c.requires.valid c.start_of.ensures c.width_of.ensures)

pub overflow_add-result-2 : goal.overflow_add-result-2
overflow_add-result-2 c = omega (arith, placed _ c.args.c _ _ c.requires.fit c.requires.valid c.start_of.ensures c.width_of.ensures)

pub returns : goal.returns
returns c = ap place_at (placed _ c.args.c _ _ c.requires.fit c.requires.valid c.start_of.ensures c.width_of.ensures).0

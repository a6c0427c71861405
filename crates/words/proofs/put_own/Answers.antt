-- The word k places after the row's first is the cell in column k.
use native.Mathlib.Omega.{arith}
use Rattle.words.proofs.Needs.{own_inside, own_small, own_put, own_put_sound}
use Rattle.words.proofs.put_own.Goals as goal

pub overflow_add-at : goal.overflow_add-at
overflow_add-at c = omega (arith, own_small _ _ _ _ c.requires.sound c.requires.rowed c.requires.k_bound)

pub offset_bounds-im-at : goal.offset_bounds-im-at
offset_bounds-im-at c = omega (arith, own_small _ _ _ _ c.requires.sound c.requires.rowed c.requires.k_bound)

pub bounds-im-at : goal.bounds-im-at
bounds-im-at c = search own_inside

pub returns : goal.returns
returns c = search (own_put, own_put_sound)

-- The marks of the slots, from two places on, differ where slots are free.
use mathlib.Core.Path.{refl}
use native.Mathlib.Omega.{arith}
use Rattle.queue_rows.proofs.Rows.{ends_in, count_in, sieved_cleared}
use Rattle.queue_rows.proofs.free_clear.Goals as goal

pub overflow_sub-b : goal.overflow_sub-b
overflow_sub-b c = omega (arith, c.from-b.ensures, ends_in _ _ _ c.requires.given_value)

pub overflow_sub-a : goal.overflow_sub-a
overflow_sub-a c = omega (arith, c.from.ensures, c.from-b.ensures, ends_in _ _ _ c.requires.given_value, count_in _ _ _ c.requires.given_value)

pub sixteen_free-requires : goal.sixteen_free-requires
sixteen_free-requires c =
    let h = ends_in _ _ _ c.requires.given_value in
    let n = count_in _ _ _ c.requires.given_value in
    record { at_in_bounds = omega arith; a_bound = (omega (arith, c.from.ensures, c.from-b.ensures, h, n), omega (arith, c.from-b.ensures, h)); all_or_none = c.requires.marks.all }

pub sixteen_free-requires-2 : goal.sixteen_free-requires-2
sixteen_free-requires-2 c =
    let h = ends_in _ _ _ c.requires.given_value in
    let n = count_in _ _ _ c.requires.given_value in
    record { at_in_bounds = omega arith; a_bound = (omega (arith, c.from.ensures, c.from-b.ensures, h, n), omega (arith, c.from-b.ensures, h)); all_or_none = c.requires.marks.all }

pub returns : goal.returns
returns c =
    sieved_cleared _ _ _ c.requires.given_value _ c.requires.marks c.requires.le_given.1 _ _ _ _ c.from-b.ensures c.from.ensures refl refl c.requires.le_given.0 _ _
    c.sixteen_free.ensures c.sixteen_free-2.ensures

-- As many from the tail on as the length leaves.
use mathlib.Core.Path.{◌∙◌}
use native.Mathlib.Omega.{arith}
use Rattle.queue_rows.proofs.Rows.{ends_in, count_in}
use Rattle.queue_rows.proofs.free_zeros.Goals as goal

pub overflow_sub-free : goal.overflow_sub-free
overflow_sub-free c = omega (arith, c.from.ensures, count_in _ _ _ c.requires.given_value)

pub slots_below-requires : goal.slots_below-requires
slots_below-requires c = record { from_lt_given = (omega (arith, c.from-2.ensures, ends_in _ _ _ c.requires.given_value), c.requires.given_le_most_capacity); given_in_bounds = c.requires.given_in_bounds }

pub returns : goal.returns
returns c = c.slots_below.ensures ∙ rw (c.from-2.ensures, c.from.ensures)

-- The part from the task's row on is lent; its orders are ticks, and the clock falls by as many.
use native.Mathlib.Omega.{arith}
use Rattle.ticks.proofs.Lent.{back_sound, orders_first, orders_told, row_counted, row_within, row_small, part_lent, part_calm}
use Rattle.ticks.proofs.Needs.{lawful_sound, sound_long, least_some, least_second, row_fits, row_least}
use borrow.Author.Rules.{rules}
use Rattle.ticks.proofs.run_orders.Goals as goal

pub offset_bounds-im-row : goal.offset_bounds-im-row
offset_bounds-im-row c = omega (arith, row_small _ _ _ (lawful_sound _ _ c.requires.lawful) c.requires.first)

pub slice_bounds-orders-count : goal.slice_bounds-orders-count
slice_bounds-orders-count c = search (row_within, lawful_sound)

pub slice_bounds-orders-start : goal.slice_bounds-orders-start
slice_bounds-orders-start c = search (row_within, lawful_sound)

pub orders-taken-requires : goal.orders-taken-requires
orders-taken-requires c = record { lent = search (part_lent, lawful_sound); order_table = search rules; p_bound = search (part_calm, lawful_sound); most_nonzero = search least_some }

pub overflow_sub-clock : goal.overflow_sub-clock
overflow_sub-clock c = least_second _ _ _ c.least-ticks.ensures _ (row_fits _ _ _ _ c.orders-taken.ensures.value)

pub put-requires : goal.put-requires
put-requires c = record { sound = search (back_sound, lawful_sound); has_spot = search rules }

pub shape_of-im : goal.shape_of-im
shape_of-im c = search (sound_long, lawful_sound)

pub returns : goal.returns
returns c =
    let h = lawful_sound _ _ c.requires.lawful in
    record { value = row_least _ _ _ _ c.orders-taken.ensures.value _ _ c.least-ticks.ensures; told = orders_told _ _ _ h c.requires.first c.requires.task_bound _ _ _ c.requires.clock_value c.orders-taken.ensures.value (least_some _ _ _ c.least-ticks.ensures c.requires.clock_nonzero.0 c.requires.clock_nonzero.1) (omega (arith, c.least-ticks.ensures)) _ _ c.orders-taken.ensures.p_after c.put.ensures.im_after; row_counted = row_counted _ _ _ h c.requires.first c.requires.task_bound _ _ _ c.requires.clock_value c.orders-taken.ensures.value (least_some _ _ _ c.least-ticks.ensures c.requires.clock_nonzero.0 c.requires.clock_nonzero.1) (omega (arith, c.least-ticks.ensures)) _ _ c.orders-taken.ensures.p_after c.put.ensures.im_after; first_2 = search orders_first }

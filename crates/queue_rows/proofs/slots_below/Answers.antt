-- The words before the next are below m.
use mathlib.Core.Path.{refl}
use native.Mathlib.Omega.{arith}
use Rattle.queue_rows.specs.BufferRows.{row_words_below}
use Rattle.queue_rows.proofs.Rows.{below_none, slot_in, below_wrong, below_more, below_done}
use Rattle.queue_rows.proofs.slots_below.Goals as goal

pub loop-init : goal.loop-init
loop-init c = below_none _ _ _ _ _ c.requires.from_lt_given.0

pub overflow_add-first-in-loop : goal.overflow_add-first-in-loop
overflow_add-first-in-loop c = omega (arith, slot_in _ _ _ _ _ c.requires.from_lt_given.0 _ _ c.loop.invariant)

pub offset_bounds-im-first : goal.offset_bounds-im-first
offset_bounds-im-first c = omega (arith, slot_in _ _ _ _ _ c.requires.from_lt_given.0 _ _ c.loop.invariant)

pub bounds-im-first : goal.bounds-im-first
bounds-im-first c = omega (arith, slot_in _ _ _ _ _ c.requires.from_lt_given.0 _ _ c.loop.invariant)

pub returns-then-m-from : goal.returns-then-m-from
unfolding row_words_below
returns-then-m-from c = below_wrong _ _ _ _ _ c.requires.from_lt_given.0 _ _ c.loop.invariant _ _ _ c.loop-test.true c.from.ensures refl c.if-m-from.true

pub overflow_add-slot : goal.overflow_add-slot
overflow_add-slot c = omega (arith, slot_in _ _ _ _ _ c.requires.from_lt_given.0 _ _ c.loop.invariant)

pub wrapped-slot-requires : goal.wrapped-slot-requires
wrapped-slot-requires c = omega (arith, slot_in _ _ _ _ _ c.requires.from_lt_given.0 _ _ c.loop.invariant)

pub loop-preserved : goal.loop-preserved
loop-preserved c = below_more _ _ _ _ _ c.requires.from_lt_given.0 _ _ c.loop.invariant _ _ _ c.from.ensures refl c.if-m-from.false c.wrapped-slot.ensures

pub returns : goal.returns
unfolding row_words_below
returns c = below_done _ _ _ _ _ c.requires.from_lt_given.0 _ _ c.loop.invariant _ c.loop-test.false (omega arith)

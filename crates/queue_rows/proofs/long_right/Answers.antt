-- The leading words, then all slots, then the free ones.
use mathlib.Core.Path.{sym, ◌∙◌}
use Rattle.queue_rows.proofs.Rows.{unqueued_wrong, slots_wrong, full_right, slots_decide}
use Rattle.queue_rows.proofs.long_right.Goals as goal

pub returns-then-not-row_queued : goal.returns-then-not-row_queued
returns-then-not-row_queued c = unqueued_wrong _ _ _ _ _ c.row_queued.ensures c.if-not-row_queued.true

pub returns-then-not-slots_typed : goal.returns-then-not-slots_typed
returns-then-not-slots_typed c = slots_wrong _ _ _ (sym c.row_queued.ensures ∙ c.if-not-row_queued.false) _ _ c.slots_typed.ensures c.if-not-slots_typed.true

pub returns-then-from-given : goal.returns-then-from-given
returns-then-from-given c = full_right _ _ _ (sym c.row_queued.ensures ∙ c.if-not-row_queued.false) _ _ c.slots_typed.ensures c.if-not-slots_typed.false _ c.from.ensures c.if-from-given.true

pub free_clear-requires : goal.free_clear-requires
free_clear-requires c = record { le_given = c.requires.le_given; given_in_bounds = c.requires.given_in_bounds; given_value = sym c.row_queued.ensures ∙ c.if-not-row_queued.false; marks = c.requires.marks }

pub returns : goal.returns
returns c = slots_decide _ _ _ (sym c.row_queued.ensures ∙ c.if-not-row_queued.false) _ _ c.slots_typed.ensures c.if-not-slots_typed.false _ c.free_clear.ensures

-- The leading words, then the words held, then the free slots.
use mathlib.Core.Path.{sym, ◌∙◌}
use Rattle.queue_rows.proofs.Rows.{unqueued_wrong, untyped_wrong, free_decide}
use Rattle.queue_rows.proofs.row_right.Goals as goal

pub returns-then-not-row_queued : goal.returns-then-not-row_queued
returns-then-not-row_queued c = unqueued_wrong _ _ _ _ _ c.row_queued.ensures c.if-not-row_queued.true

pub words_typed-requires : goal.words_typed-requires
words_typed-requires c = record { given_le_most_capacity = c.requires.given_le_most_capacity; given_in_bounds = c.requires.given_in_bounds; given_value = sym c.row_queued.ensures ∙ c.if-not-row_queued.false }

pub returns-then-not-words_typed : goal.returns-then-not-words_typed
returns-then-not-words_typed c = untyped_wrong _ _ _ (sym c.row_queued.ensures ∙ c.if-not-row_queued.false) _ _ c.words_typed.ensures c.if-not-words_typed.true

pub free_zeros-requires : goal.free_zeros-requires
free_zeros-requires c = record { given_le_most_capacity = c.requires.given_le_most_capacity; given_in_bounds = c.requires.given_in_bounds; given_value = sym c.row_queued.ensures ∙ c.if-not-row_queued.false }

pub returns : goal.returns
returns c = free_decide _ _ _ (sym c.row_queued.ensures ∙ c.if-not-row_queued.false) _ _ _ c.words_typed.ensures c.if-not-words_typed.false c.free_zeros.ensures

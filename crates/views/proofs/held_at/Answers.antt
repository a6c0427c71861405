-- The word k places from the head is in slot (head + k) mod capacity.
use Rattle.laws.specs.Sound.{sound_sized}
use Rattle.laws.specs.Cells.{in_lead}
use Rattle.views.proofs.Queues.{none_held, some_slots, slot_there, slot_low, word_held}
use borrow.Author.Rules.{rules, Fits-under}
use Rattle.views.proofs.held_at.Goals as goal

pub returns-then-count-at : goal.returns-then-count-at
returns-then-count-at c = search none_held

pub queue_word-requires : goal.queue_word-requires
queue_word-requires c = record { sized = search sound_sized; has = search rules; k_bound = search in_lead }

pub queue_word-requires-2 : goal.queue_word-requires-2
queue_word-requires-2 c = record { sized = search sound_sized; has = search rules; k_bound = search in_lead }

pub nonzero_rem-slot : goal.nonzero_rem-slot
nonzero_rem-slot c = search some_slots

pub overflow_add-slot-2 : goal.overflow_add-slot-2
overflow_add-slot-2 c = Fits-under _ _ 37 (slot_low _ _ c.args.q c.requires.sound c.requires.has _ _ c.queue_word-2.ensures c.from-capacity.ensures _) tt

pub queue_word-requires-3 : goal.queue_word-requires-3
queue_word-requires-3 c = record { sized = search sound_sized; has = search rules; k_bound = slot_there _ _ c.args.q c.requires.sound c.requires.has _ _ c.queue_word-2.ensures c.from-capacity.ensures _ }

pub returns : goal.returns
returns c = search word_held

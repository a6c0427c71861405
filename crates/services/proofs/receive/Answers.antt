-- The number in R2, then the buffer tell whether the task faults, waits or gets a word; its source's status tells whether it is woken.
use mathlib.Core.Path.{refl}
use Rattle.paper.specs.declared.Service.{Service}
use Rattle.services.proofs.Needs.{unnamed, other_waits, room_got, moved_waking, moved_alone, not_empty, receives, gets_from}
use borrow.Author.Rules.{rules}
use Rattle.services.proofs.receive.Goals as goal

pub returns-then-s-j : goal.returns-then-s-j
returns-then-s-j c = record { im_after = search (unnamed, receives); sound_2 = search rules }

pub returns-then-empty : goal.returns-then-empty
returns-then-empty c = record { im_after = search (other_waits, receives, gets_from); sound_2 = search rules }

pub deliver-r-requires : goal.deliver-r-requires
deliver-r-requires c = record { sound = search rules; rowed = search rules; has = search rules; q_value = search not_empty }

pub wake-requires : goal.wake-requires
wake-requires c = record { sound = search rules; t_lt_n = search rules; im_value = room_got _ _ _ _ _ _ _ c.requires.sound c.requires.rowed.known (search rules) (search rules) c.requires.roomy Service.Send _ c.waits_for-waiting.ensures c.if-waiting.true c.deliver-r.ensures.im_after refl }

pub returns-then-waiting : goal.returns-then-waiting
returns-then-waiting c = record { im_after = search (moved_waking, receives, gets_from); sound_2 = search rules }

pub returns-else-waiting : goal.returns-else-waiting
returns-else-waiting c = record { im_after = search (moved_alone, receives, gets_from); sound_2 = search rules }

-- The number in R2, then the buffer tell whether the task faults, waits or sends; its peer's status tells whether it is woken.
use mathlib.Core.Path.{refl}
use Rattle.paper.specs.declared.Service.{Service}
use Rattle.services.proofs.Needs.{unnamed, other_waits, room_sent, moved_waking, moved_alone, not_full, sends, sends_to}
use borrow.Author.Rules.{rules}
use Rattle.services.proofs.send.Goals as goal

pub returns-then-s-j : goal.returns-then-s-j
returns-then-s-j c = record { im_after = search (unnamed, sends); sound_2 = search rules }

pub returns-then-full : goal.returns-then-full
returns-then-full c = record { im_after = search (other_waits, sends, sends_to); sound_2 = search rules }

pub pass-r-requires : goal.pass-r-requires
pass-r-requires c = record { sound = search rules; rowed = search rules; has = search rules; q_value = search not_full }

pub wake-requires : goal.wake-requires
wake-requires c = record { sound = search rules; t_lt_n = search rules; im_value = room_sent _ _ _ _ _ _ _ c.requires.sound c.requires.rowed.known (search rules) (search rules) c.requires.roomy Service.Receive _ c.waits_for-waiting.ensures c.if-waiting.true c.pass-r.ensures.im_after refl }

pub returns-then-waiting : goal.returns-then-waiting
returns-then-waiting c = record { im_after = search (moved_waking, sends, sends_to); sound_2 = search rules }

pub returns-else-waiting : goal.returns-else-waiting
returns-else-waiting c = record { im_after = search (moved_alone, sends, sends_to); sound_2 = search rules }

-- R0 is moved past the order first, so that it is read so and written last.
use mathlib.Core.Path.{refl}
use lib.Dec.{lit≤}
use Rattle.effects.specs.Holding.{is_near, is_some, is_from, is_low, past_from, past_low}
use Rattle.machine.proofs.Deciding.{is_inside, moved_act}
use Rattle.machine.proofs.Choosing.{a_register, moved_hand, moved_a, moved_b, moved_on, moved_off, on_hand}
use Rattle.machine.proofs.OfKind.{kind_is}
use borrow.Author.Rules.{rules}
use Rattle.machine.proofs.named.Goals as goal

pub onward-requires : goal.onward-requires
onward-requires c = (search is_near, search rules)

pub stand-requires : goal.stand-requires
stand-requires c = record { p_nonzero = search is_some; from_le_x = (search past_from, search (past_low, is_inside, lit≤)) }

pub bounds-p-a : goal.bounds-p-a
bounds-p-a c = search moved_a

pub bounds-p-field_b : goal.bounds-p-field_b
bounds-p-field_b c = search moved_b

pub works-requires : goal.works-requires
works-requires c = record { in_hand = moved_hand _ _ _ c.requires.in_hand _ _ c.stand.ensures; at_lt_to = search is_inside; a_bound = search a_register; w_value = search kind_is; w_value_2 = search rules; at_value = moved_act _ _ _ _ c.requires.in_hand c.requires.fetched c.requires.w_value _ _ c.field_a-a.ensures c.field_b.ensures _ c.onward.ensures _ c.stand.ensures _ _ refl refl }

pub stand-requires-in-On : goal.stand-requires-in-On
stand-requires-in-On c =
    let hand = on_hand _ _ _ c.requires.in_hand _ _ c.stand.ensures _ _ _ c.works.ensures _ c.in-On.is in
    record { p_nonzero = is_some _ _ _ hand; from_le_x = (is_from _ _ _ hand, is_low _ _ _ hand) }

pub returns-in-On : goal.returns-in-On
returns-in-On c = search moved_on

pub returns-in_default : goal.returns-in_default
returns-in_default c = search moved_off

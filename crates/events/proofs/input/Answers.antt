-- The buffer decides, as in the definition, before anything is written; the owner's status tells whether it is woken.
use mathlib.Core.Path.{sym, ◌∙◌}
use Rattle.paper.specs.declared.Service.{Service}
use Rattle.services.proofs.Needs.{not_full}
use Rattle.events.proofs.Branches.{input_is, refused_by_test, moved_alone, moved_waking, input_room}
use borrow.Author.Rules.{rules}
use Rattle.std.proofs.lemmas.Bool.{eq-eqb, ne_eqb}
use Rattle.events.proofs.input.Goals as goal

pub returns-then-full : goal.returns-then-full
returns-then-full c = record { im_after = refused_by_test _ _ _ _ _ _ _ _ _ (input_is _ _ _ _) (sym c.full.ensures ∙ c.if-full.true); sound_2 = search rules }

pub append-requires : goal.append-requires
append-requires c = record { sound = search rules; has = search rules; q_value = search not_full }

pub wake-requires : goal.wake-requires
wake-requires c = record { sound = search rules; t_lt_n = search rules; im_value = input_room _ _ _ _ c.requires.sound c.requires.t_lt_n c.requires.roomy Service.Input _ c.get-waiting.ensures (eq-eqb _ _ c.if-waiting.true) _ c.append.ensures.im_after }

pub returns-then-waiting : goal.returns-then-waiting
returns-then-waiting c = record { im_after = moved_waking _ _ _ _ _ _ _ _ _ (input_is _ _ _ _) (sym c.full.ensures ∙ c.if-full.false) _ c.get-waiting.ensures _ c.append.ensures.im_after (eq-eqb _ _ c.if-waiting.true) _ c.wake.ensures.im_after; sound_2 = search rules }

pub returns-else-waiting : goal.returns-else-waiting
returns-else-waiting c = record { im_after = moved_alone _ _ _ _ _ _ _ _ _ (input_is _ _ _ _) (sym c.full.ensures ∙ c.if-full.false) _ c.get-waiting.ensures _ c.append.ensures.im_after (ne_eqb _ _ c.if-waiting.false); sound_2 = search rules }

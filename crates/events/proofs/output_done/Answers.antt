-- The port decides, as in the definition, before anything is written; the owner's status tells whether it is woken.
use Rattle.paper.specs.declared.Service.{Service}
use Rattle.events.proofs.Branches.{port_idle, port_busy, output_done_is, refused_by_test, moved_alone, moved_waking, port_room}
use borrow.Author.Rules.{rules}
use Rattle.std.proofs.lemmas.Bool.{eq-eqb, ne_eqb}
use Rattle.events.proofs.output_done.Goals as goal

pub returns-then-get-eq-IDLE : goal.returns-then-get-eq-IDLE
returns-then-get-eq-IDLE c = record { im_after = refused_by_test _ _ _ _ _ _ _ _ _ (output_done_is _ _ _) (port_idle _ _ _ _ c.get.ensures c.if-get-eq-IDLE.true); sound_2 = search rules }

pub wake-requires : goal.wake-requires
wake-requires c = record { sound = search rules; t_lt_n = search rules; im_value = port_room _ _ _ _ c.requires.sound c.requires.t_lt_n c.requires.roomy Service.Output _ c.get-waiting.ensures (eq-eqb _ _ c.if-waiting.true) c.next_output.ensures.im_after }

pub returns-then-waiting : goal.returns-then-waiting
returns-then-waiting c = record { im_after = moved_waking _ _ _ _ _ _ _ _ _ (output_done_is _ _ _) (port_busy _ _ _ _ c.get.ensures c.if-get-eq-IDLE.false) _ c.get-waiting.ensures _ c.next_output.ensures.im_after (eq-eqb _ _ c.if-waiting.true) _ c.wake.ensures.im_after; sound_2 = search rules }

pub returns-else-waiting : goal.returns-else-waiting
returns-else-waiting c = record { im_after = moved_alone _ _ _ _ _ _ _ _ _ (output_done_is _ _ _) (port_busy _ _ _ _ c.get.ensures c.if-get-eq-IDLE.false) _ c.get-waiting.ensures _ c.next_output.ensures.im_after (ne_eqb _ _ c.if-waiting.false); sound_2 = search rules }

-- The rule's answer is the tick's.
use Rattle.laws.proofs.Room.{lawful_roomy}
use Rattle.ticks.proofs.Needs.{rule_is, rule_few, rule_stays, lawful_sound, first_rowed, first_some, first_flagged}
use borrow.Author.Rules.{rules}
use Rattle.ticks.proofs.rule.Goals as goal

pub before_order-a-requires : goal.before_order-a-requires
before_order-a-requires c = record { sound = search lawful_sound; rowed = search first_rowed; roomy = search lawful_roomy; im_value = search first_some; flagged = search first_flagged; flags_value = search rules; clock_value = search rules; le_flags = search rules }

pub note_answer-requires : goal.note_answer-requires
note_answer-requires c = record { ledger = search rules; a_bound = search rule_few; room = search rules }

pub returns : goal.returns
returns c = record { counts_after = search rules; im_after = search rule_is; first_if = search rule_stays }

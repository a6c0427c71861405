-- An order's answer is told by the flags, any other is at hand.
use Rattle.ticks.proofs.Needs.{lawful_sound, told_order, told_answer}
use borrow.Author.Rules.{rules}
use Rattle.ticks.proofs.told.Goals as goal

pub own-requires : goal.own-requires
own-requires c = record { sound = search lawful_sound; rowed = search rules; k_bound = search rules }

pub returns-in-None : goal.returns-in-None
returns-in-None c = search told_order

pub returns-in-Some : goal.returns-in-Some
returns-in-Some c = search told_answer

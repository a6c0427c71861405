-- The buffer tells whether the task waits or the word is delivered, and nobody is woken.
use Rattle.services.proofs.Needs.{not_empty, comes_to_wait, comes_to_pass}
use borrow.Author.Rules.{rules}
use Rattle.services.proofs.input.Goals as goal

pub returns-then-empty : goal.returns-then-empty
returns-then-empty c = record { im_after = search (comes_to_wait, rules); sound_2 = search rules }

pub deliver-requires : goal.deliver-requires
deliver-requires c = record { sound = search rules; rowed = search rules; has = search rules; q_value = search not_empty }

pub returns : goal.returns
returns c = record { im_after = search (comes_to_pass, rules); sound_2 = search rules }

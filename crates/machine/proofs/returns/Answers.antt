-- R0 becomes the word that the stack leads to, then R1 rises, as the definition of return says.
use mathlib.Core.Path.{refl}
use native.Mathlib.Omega.{arith}
use Rattle.effects.specs.Holding.{is_based, stack_in, read_in, twice_fits}
use Rattle.machine.proofs.Deciding.{return_outside}
use Rattle.machine.proofs.Choosing.{fell_after, return_next}
use borrow.Author.Rules.{rules}
use Rattle.machine.proofs.returns.Goals as goal

pub bounds-p-1 : goal.bounds-p-1
bounds-p-1 c = search stack_in

pub aimed-requires : goal.aimed-requires
aimed-requires c = search is_based

pub fault-requires : goal.fault-requires
fault-requires c = record { in_hand = search rules; at_value = search return_outside; e_nonzero = search rules }

pub returns-in_default : goal.returns-in_default
returns-in_default c = search fell_after

pub offset_bounds-p-k : goal.offset_bounds-p-k
offset_bounds-p-k c = search twice_fits

pub bounds-p-k : goal.bounds-p-k
bounds-p-k c = search read_in

pub bounds-p-1-2 : goal.bounds-p-1-2
bounds-p-1-2 c = search stack_in

pub aimed-requires-2 : goal.aimed-requires-2
aimed-requires-2 c = search is_based

pub returns : goal.returns
returns c = return_next _ _ _ _ c.requires.in_hand c.requires.fetched c.requires.w_value _ _ _ _ _ _ _ _ refl c.aimed.ensures c.reached.ensures c.in-Some.is refl c.sum.ensures refl c.aimed-2.ensures (grind arith)

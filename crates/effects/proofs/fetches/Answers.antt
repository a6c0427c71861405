-- The word at the address goes to the register, as the definition of fetch says.
use Rattle.effects.specs.Holding.{is_based, is_near, register_in, read_in, twice_fits}
use Rattle.effects.proofs.Answering.{fell_worked, fetch_outside, fetch_next}
use borrow.Author.Rules.{rules}
use Rattle.effects.proofs.fetches.Goals as goal

pub aimed-requires : goal.aimed-requires
aimed-requires c = search is_based

pub fault-requires : goal.fault-requires
fault-requires c = record { in_hand = search rules; at_value = search fetch_outside; e_nonzero = search rules }

pub returns-in_default : goal.returns-in_default
returns-in_default c = search fell_worked

pub offset_bounds-p-k : goal.offset_bounds-p-k
offset_bounds-p-k c = search twice_fits

pub bounds-p-k : goal.bounds-p-k
bounds-p-k c = search read_in

pub onward-requires : goal.onward-requires
onward-requires c = (search is_near, search rules)

pub set-requires : goal.set-requires
set-requires c = search register_in

pub returns : goal.returns
returns c = search fetch_next

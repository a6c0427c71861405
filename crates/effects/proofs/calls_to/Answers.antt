-- The return address goes to where the stack leads, then R1 falls, as the definition of call says.
use lib.Dec.{lit≤}
use Rattle.effects.specs.Holding.{is_based, is_near, stack_in, read_in, twice_fits, past_from, past_low}
use Rattle.effects.proofs.Answering.{fell_done, call_outside, stack_room, call_next}
use borrow.Author.Rules.{rules}
use Rattle.effects.proofs.calls_to.Goals as goal

pub bounds-p-1 : goal.bounds-p-1
bounds-p-1 c = search stack_in

pub aimed-requires : goal.aimed-requires
aimed-requires c = search is_based

pub fault-requires : goal.fault-requires
fault-requires c = record { in_hand = search rules; at_value = search call_outside; e_nonzero = search rules }

pub returns-in_default : goal.returns-in_default
returns-in_default c = search fell_done

pub onward-requires : goal.onward-requires
onward-requires c = (search is_near, search rules)

pub address-requires : goal.address-requires
address-requires c = (search past_from, search (past_low, lit≤))

pub offset_bounds-p-k : goal.offset_bounds-p-k
offset_bounds-p-k c = search twice_fits

pub bounds-p-k : goal.bounds-p-k
bounds-p-k c = search read_in

pub bounds-p-1-2 : goal.bounds-p-1-2
bounds-p-1-2 c = search stack_room

pub aimed-requires-2 : goal.aimed-requires-2
aimed-requires-2 c = search is_based

pub returns : goal.returns
returns c = search call_next

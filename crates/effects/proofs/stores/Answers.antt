-- The word goes to the address, as the definition of store says.
use Rattle.effects.specs.Holding.{is_based, is_near, read_in, twice_fits}
use Rattle.effects.proofs.Answering.{fell_done, store_outside, store_next}
use borrow.Author.Rules.{rules}
use Rattle.effects.proofs.stores.Goals as goal

pub aimed-requires : goal.aimed-requires
aimed-requires c = search is_based

pub fault-requires : goal.fault-requires
fault-requires c = record { in_hand = search rules; at_value = search store_outside; e_nonzero = search rules }

pub returns-in_default : goal.returns-in_default
returns-in_default c = search fell_done

pub offset_bounds-p-k : goal.offset_bounds-p-k
offset_bounds-p-k c = search twice_fits

pub bounds-p-k : goal.bounds-p-k
bounds-p-k c = search read_in

pub onward-requires : goal.onward-requires
onward-requires c = (search is_near, search rules)

pub returns : goal.returns
returns c = search store_next

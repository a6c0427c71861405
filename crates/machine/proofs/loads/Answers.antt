-- The second word goes to the register, as the definition of load says.
use Rattle.effects.specs.Holding.{is_near, read_in, twice_fits}
use Rattle.machine.proofs.Deciding.{load_outside}
use Rattle.machine.proofs.Choosing.{fell_after, a_in, load_next}
use borrow.Author.Rules.{rules}
use Rattle.machine.proofs.loads.Goals as goal

pub onward-requires : goal.onward-requires
onward-requires c = (search is_near, search rules)

pub fault-requires : goal.fault-requires
fault-requires c = record { in_hand = search rules; at_value = search load_outside; e_nonzero = search rules }

pub returns-in_default : goal.returns-in_default
returns-in_default c = search fell_after

pub offset_bounds-p-k : goal.offset_bounds-p-k
offset_bounds-p-k c = search twice_fits

pub bounds-p-k : goal.bounds-p-k
bounds-p-k c = search read_in

pub onward-requires-2 : goal.onward-requires-2
onward-requires-2 c = (search is_near, search rules)

pub set-requires : goal.set-requires
set-requires c = search a_in

pub returns : goal.returns
returns c = search load_next

-- The second word is what is called.
use Rattle.effects.specs.Holding.{is_near, read_in, twice_fits}
use Rattle.machine.proofs.Deciding.{is_inside, call_outside, call_acts}
use Rattle.machine.proofs.Choosing.{fell_after, call_after}
use borrow.Author.Rules.{rules}
use Rattle.machine.proofs.calls.Goals as goal

pub onward-requires : goal.onward-requires
onward-requires c = (search is_near, search rules)

pub fault-requires : goal.fault-requires
fault-requires c = record { in_hand = search rules; at_value = search call_outside; e_nonzero = search rules }

pub returns-in_default : goal.returns-in_default
returns-in_default c = search fell_after

pub offset_bounds-p-k : goal.offset_bounds-p-k
offset_bounds-p-k c = search twice_fits

pub bounds-p-k : goal.bounds-p-k
bounds-p-k c = search read_in

pub calls_to-requires : goal.calls_to-requires
calls_to-requires c = record { in_hand = search rules; at_lt_to = search is_inside; at_value = search call_acts }

pub returns : goal.returns
returns c = search call_after

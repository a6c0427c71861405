-- Outside the segment the order faults; else its first word is looked at.
use Rattle.effects.specs.Holding.{within, read_in, twice_fits}
use Rattle.machine.proofs.Deciding.{first_outside, first_word}
use Rattle.machine.proofs.Choosing.{fell_after}
use borrow.Author.Rules.{rules}
use Rattle.machine.proofs.order.Goals as goal

pub fault-requires : goal.fault-requires
fault-requires c = record { in_hand = search rules; at_value = search first_outside; e_nonzero = search rules }

pub returns-in_default : goal.returns-in_default
returns-in_default c = search fell_after

pub offset_bounds-p-k : goal.offset_bounds-p-k
offset_bounds-p-k c = search twice_fits

pub bounds-p-k : goal.bounds-p-k
bounds-p-k c = search read_in

pub known-requires : goal.known-requires
known-requires c = record { in_hand = search rules; order_table = search rules; at_lt_to = search within; w_value = search first_word }

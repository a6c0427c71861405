-- R0 in hand is written back, and the error is added to flags that have none.
use lib.Dec.{lit≤}
use Rattle.effects.specs.Holding.{is_some, is_from, is_low}
use Rattle.effects.proofs.Answering.{held_row, held_room}
use Rattle.effects.specs.Carrying.{fault_went}
use Rattle.effects.proofs.fault.Goals as goal

pub stand-requires : goal.stand-requires
stand-requires c = record { p_nonzero = search is_some; from_le_x = (search is_from, search is_low) }

pub bounds-p-8 : goal.bounds-p-8
bounds-p-8 c = search (held_row, lit≤)

pub overflow_add-p : goal.overflow_add-p
overflow_add-p c = search held_room

pub bounds-p-8-2 : goal.bounds-p-8-2
bounds-p-8-2 c = search (held_row, lit≤)

pub returns : goal.returns
returns c = search fault_went

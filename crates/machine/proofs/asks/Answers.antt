-- An unknown op or service faults; any other service becomes pending in the flags, with R0 past the order.
use lib.Dec.{lit≤}
use Rattle.effects.specs.Holding.{is_near, is_some, past_from, past_low}
use Rattle.machine.proofs.Deciding.{is_inside, unknown_op, unknown_service}
use Rattle.machine.proofs.Choosing.{fell_after, asked_row, asked_room, ask_next}
use borrow.Author.Rules.{rules}
use Rattle.machine.proofs.asks.Goals as goal

pub fault-requires : goal.fault-requires
fault-requires c = record { in_hand = search rules; at_value = search unknown_op; e_nonzero = search rules }

pub returns-then-w-ne-SERVICE : goal.returns-then-w-ne-SERVICE
returns-then-w-ne-SERVICE c = search fell_after

pub fault-requires-then-not-both : goal.fault-requires-then-not-both
fault-requires-then-not-both c = record { in_hand = search rules; at_value = search unknown_service; e_nonzero = search rules }

pub returns-then-not-both : goal.returns-then-not-both
returns-then-not-both c = search fell_after

pub onward-requires : goal.onward-requires
onward-requires c = (search is_near, search rules)

pub stand-requires : goal.stand-requires
stand-requires c = record { p_nonzero = search is_some; from_le_x = (search past_from, search (past_low, is_inside, lit≤)) }

pub bounds-p-8 : goal.bounds-p-8
bounds-p-8 c = search asked_row

pub overflow_add-p : goal.overflow_add-p
overflow_add-p c = search asked_room

pub bounds-p-8-2 : goal.bounds-p-8-2
bounds-p-8-2 c = search asked_row

pub returns : goal.returns
returns c = search ask_next

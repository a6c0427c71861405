-- The first task's row, and its entry of the segment table.
use Rattle.ticks.proofs.Needs.{first_in, row_before, seat_made, lawful_sound, lawful_fit}
use borrow.Author.Rules.{rules}
use Rattle.ticks.proofs.first_seat.Goals as goal

pub first-requires : goal.first-requires
first-requires c = search (lawful_sound, rules)

pub row_of-row-requires : goal.row_of-row-requires
row_of-row-requires c = record { fit = search lawful_fit; t_lt_n = search (first_in, rules) }

pub entry-requires : goal.entry-requires
entry-requires c = record { sound = search lawful_sound; t_lt_n = search (first_in, rules) }

pub overflow_sub-from : goal.overflow_sub-from
overflow_sub-from c = search row_before

pub entry-requires-2 : goal.entry-requires-2
entry-requires-2 c = record { sound = search lawful_sound; t_lt_n = search (first_in, rules) }

pub returns : goal.returns
returns c = search seat_made

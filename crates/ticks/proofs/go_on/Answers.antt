-- By the flags and the clock: a rule before an order, the turn, or orders in a row.
use native.Mathlib.Omega.{arith}
use Rattle.counting.specs.Growing.{room_less}
use Rattle.noting.specs.Ledgers.{row_place}
use Rattle.ticks.proofs.Needs.{one_told, one_counted, rule_gone, turn_is, turn_gone, turn_counted, turn_leaves, orders_gone, orders_answer, orders_stay, lawful_sound, first_rowed, first_some, flags_calm, has_time, row_fits}
use Rattle.ticks.proofs.Tallying.{row_tallied, task_few}
use Rattle.ticks.proofs.Telling.{told_lawful, told_some}
use borrow.Author.Rules.{rules}
use Rattle.ticks.proofs.go_on.Goals as goal

pub own-flags-requires : goal.own-flags-requires
own-flags-requires c = record { sound = search lawful_sound; rowed = search first_rowed; k_bound = search rules }

pub get-clock-requires : goal.get-clock-requires
get-clock-requires c = search (lawful_sound, rules)

pub rule-requires : goal.rule-requires
rule-requires c = record { lawful = search rules; first = search rules; flags_value = search rules; clock_value = search rules; le_flags = search rules; ledger = search rules; room = room_less _ _ _ c.requires.room (omega (arith, c.requires.most_nonzero)) }

pub returns-then-flags-ge-ERROR : goal.returns-then-flags-ge-ERROR
returns-then-flags-ge-ERROR c = record { counts_after = search one_counted; value = search rule_gone; taken_le_most = omega arith; told = search one_told; first_if = search rules }

pub turn-requires : goal.turn-requires
turn-requires c = record { sound = search lawful_sound; im_value = search first_some }

pub note-requires : goal.note-requires
note-requires c = record { ledger = c.requires.ledger; k_lt_all_counts = row_place _ _ _ c.place_of.ensures (omega arith) (task_few _ _ c.requires.lawful _ (first_rowed _ _ _ c.requires.first).known); room = room_less _ _ _ c.requires.room (omega (arith, c.requires.most_nonzero)) }

pub returns-then-clock-eq0 : goal.returns-then-clock-eq0
returns-then-clock-eq0 c =
    let is = turn_is _ _ _ c.requires.first _ _ c.own-flags.ensures c.if-flags-ge-ERROR.false c.get-clock.ensures c.if-clock-eq0.true _ c.turn.ensures.im_after in
    record { counts_after = turn_counted _ _ _ _ is _ _ _ c.place_of.ensures c.note.ensures; value = turn_gone _ _ _ _ is _ _ _ c.own-flags.ensures c.get-clock.ensures _ c.if-flags-ge-ERROR.false c.if-clock-eq0.true; taken_le_most = omega arith; told = one_told _ _ _ _ is _; first_if = search turn_leaves }

pub run_orders-taken-requires : goal.run_orders-taken-requires
run_orders-taken-requires c = record { lawful = search rules; order_table = search rules; first = search rules; task_bound = flags_calm _ _ _ _ c.own-flags.ensures c.if-flags-ge-ERROR.false; clock_value = search rules; clock_nonzero = (search has_time, search rules) }

pub note_row-requires : goal.note_row-requires
note_row-requires c = record { lawful = told_lawful _ _ _ _ _ c.run_orders-taken.ensures.told c.requires.lawful; rowed = first_rowed _ _ _ c.requires.first; ledger = c.requires.ledger; room = room_less _ _ _ c.requires.room (omega (arith, row_fits _ _ _ _ c.run_orders-taken.ensures.value)); n_nonzero = told_some _ _ _ _ _ c.run_orders-taken.ensures.told }

pub returns : goal.returns
returns c = record { counts_after = row_tallied _ _ _ _ _ _ _ c.run_orders-taken.ensures.row_counted c.note_row.ensures; value = orders_gone _ _ _ _ _ c.own-flags.ensures c.get-clock.ensures _ _ c.if-flags-ge-ERROR.false c.if-clock-eq0.false c.run_orders-taken.ensures.value; taken_le_most = omega (arith, row_fits _ _ _ _ c.run_orders-taken.ensures.value); told = orders_answer _ _ _ _ _ c.run_orders-taken.ensures.told; first_if = orders_stay _ _ _ c.run_orders-taken.ensures.first_2 }

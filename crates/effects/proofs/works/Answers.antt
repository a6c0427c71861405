-- Each kind has one order, or two that share a function; what it makes of the two words is the definition's.
use Rattle.effects.specs.Holding.{is_near, is_row, register_in}
use Rattle.effects.proofs.Answering.{done_worked, set_next}
use Rattle.effects.proofs.Working.{by_copy, by_fetch, by_store, by_sum, by_difference, by_product, by_divide, by_and, by_or, by_exclusive_or, compare_next}
use borrow.Author.Rules.{rules}
use Rattle.effects.proofs.works.Goals as goal

pub onward-requires : goal.onward-requires
onward-requires c = (search is_near, search rules)

pub set-requires : goal.set-requires
set-requires c = search register_in

pub fetches-requires : goal.fetches-requires
fetches-requires c = record { in_hand = search rules; at_lt_to = search rules; a_bound = search rules; at_value = search by_fetch }

pub stores-requires : goal.stores-requires
stores-requires c = record { in_hand = search rules; at_lt_to = search rules; at_value = search by_store }

pub onward-requires-in-5 : goal.onward-requires-in-5
onward-requires-in-5 c = (search is_near, search rules)

pub set-requires-in-5 : goal.set-requires-in-5
set-requires-in-5 c = search register_in

pub onward-requires-in-6 : goal.onward-requires-in-6
onward-requires-in-6 c = (search is_near, search rules)

pub set-requires-in-6 : goal.set-requires-in-6
set-requires-in-6 c = search register_in

pub onward-requires-in-7 : goal.onward-requires-in-7
onward-requires-in-7 c = (search is_near, search rules)

pub set-requires-in-7 : goal.set-requires-in-7
set-requires-in-7 c = search register_in

pub divides-requires : goal.divides-requires
divides-requires c = record { in_hand = search rules; at_lt_to = search rules; a_bound = search rules; at_value = search by_divide }

pub onward-requires-in-9 : goal.onward-requires-in-9
onward-requires-in-9 c = (search is_near, search rules)

pub set-requires-in-9 : goal.set-requires-in-9
set-requires-in-9 c = search register_in

pub onward-requires-in-10 : goal.onward-requires-in-10
onward-requires-in-10 c = (search is_near, search rules)

pub set-requires-in-10 : goal.set-requires-in-10
set-requires-in-10 c = search register_in

pub onward-requires-in-11 : goal.onward-requires-in-11
onward-requires-in-11 c = (search is_near, search rules)

pub set-requires-in-11 : goal.set-requires-in-11
set-requires-in-11 c = search register_in

pub compares-requires : goal.compares-requires
compares-requires c = (search is_row, search is_near)

pub returns-in-2 : goal.returns-in-2
returns-in-2 c = search (set_next, by_copy)

pub returns-in-4 : goal.returns-in-4
returns-in-4 c = search done_worked

pub returns-in-5 : goal.returns-in-5
returns-in-5 c = search (set_next, by_sum)

pub returns-in-6 : goal.returns-in-6
returns-in-6 c = search (set_next, by_difference)

pub returns-in-7 : goal.returns-in-7
returns-in-7 c = search (set_next, by_product)

pub returns-in-9 : goal.returns-in-9
returns-in-9 c = search (set_next, by_and)

pub returns-in-10 : goal.returns-in-10
returns-in-10 c = search (set_next, by_or)

pub returns-in-11 : goal.returns-in-11
returns-in-11 c = search (set_next, by_exclusive_or)

pub returns-in_default : goal.returns-in_default
returns-in_default c = search (done_worked, compare_next)

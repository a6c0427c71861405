-- An order that names R0 is left; any other is worked with the words of its registers.
use Rattle.machine.proofs.Deciding.{is_inside, two_act}
use Rattle.machine.proofs.Choosing.{r0_left, a_in, b_in, a_register, two_after}
use borrow.Author.Rules.{rules}
use Rattle.machine.proofs.two.Goals as goal

pub returns-then-a-eq-NEXT_ORDER : goal.returns-then-a-eq-NEXT_ORDER
returns-then-a-eq-NEXT_ORDER c = search r0_left

pub bounds-p-a : goal.bounds-p-a
bounds-p-a c = search a_in

pub bounds-p-b : goal.bounds-p-b
bounds-p-b c = search b_in

pub works-requires : goal.works-requires
works-requires c = record { in_hand = search rules; at_lt_to = search is_inside; a_bound = search a_register; w_value = search rules; w_value_2 = search rules; at_value = search two_act }

pub returns : goal.returns
returns c = search two_after

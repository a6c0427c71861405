-- The kind tells which order it is, or that it has two registers; what is no other is a jump.
use Rattle.machine.proofs.OfKind.{is_two, is_jump}
use borrow.Author.Rules.{rules}
use Rattle.machine.proofs.by_kind.Goals as goal

pub two-requires : goal.two-requires
two-requires c = record { in_hand = search rules; fetched = search rules; w_value = search rules; w_value_2 = search is_two }

pub two-requires-in-3 : goal.two-requires-in-3
two-requires-in-3 c = record { in_hand = search rules; fetched = search rules; w_value = search rules; w_value_2 = search is_two }

pub two-requires-in-4 : goal.two-requires-in-4
two-requires-in-4 c = record { in_hand = search rules; fetched = search rules; w_value = search rules; w_value_2 = search is_two }

pub two-requires-in-5 : goal.two-requires-in-5
two-requires-in-5 c = record { in_hand = search rules; fetched = search rules; w_value = search rules; w_value_2 = search is_two }

pub two-requires-in-6 : goal.two-requires-in-6
two-requires-in-6 c = record { in_hand = search rules; fetched = search rules; w_value = search rules; w_value_2 = search is_two }

pub two-requires-in-7 : goal.two-requires-in-7
two-requires-in-7 c = record { in_hand = search rules; fetched = search rules; w_value = search rules; w_value_2 = search is_two }

pub two-requires-in-8 : goal.two-requires-in-8
two-requires-in-8 c = record { in_hand = search rules; fetched = search rules; w_value = search rules; w_value_2 = search is_two }

pub two-requires-in-9 : goal.two-requires-in-9
two-requires-in-9 c = record { in_hand = search rules; fetched = search rules; w_value = search rules; w_value_2 = search is_two }

pub two-requires-in-10 : goal.two-requires-in-10
two-requires-in-10 c = record { in_hand = search rules; fetched = search rules; w_value = search rules; w_value_2 = search is_two }

pub two-requires-in-11 : goal.two-requires-in-11
two-requires-in-11 c = record { in_hand = search rules; fetched = search rules; w_value = search rules; w_value_2 = search is_two }

pub two-requires-in-13 : goal.two-requires-in-13
two-requires-in-13 c = record { in_hand = search rules; fetched = search rules; w_value = search rules; w_value_2 = search is_two }

pub jumps-requires : goal.jumps-requires
jumps-requires c = record { in_hand = search rules; fetched = search rules; w_value = search is_jump }

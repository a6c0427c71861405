-- A zero divisor faults, else the quotient or the remainder goes to the register.
use Rattle.effects.specs.Holding.{is_near, register_in}
use Rattle.effects.proofs.Answering.{fell_worked, set_next, divisor_zero, quotient_is, remainder_is}
use borrow.Author.Rules.{rules}
use Rattle.effects.proofs.divides.Goals as goal

pub fault-requires : goal.fault-requires
fault-requires c = record { in_hand = search rules; at_value = search divisor_zero; e_nonzero = search rules }

pub returns-then-y-eq0 : goal.returns-then-y-eq0
returns-then-y-eq0 c = search fell_worked

pub onward-requires : goal.onward-requires
onward-requires c = (search is_near, search rules)

pub set-requires : goal.set-requires
set-requires c = search register_in

pub returns-then-op-eq-QUOTIENT : goal.returns-then-op-eq-QUOTIENT
returns-then-op-eq-QUOTIENT c = search (set_next, quotient_is)

pub onward-requires-2 : goal.onward-requires-2
onward-requires-2 c = (search is_near, search rules)

pub set-requires-2 : goal.set-requires-2
set-requires-2 c = search register_in

pub returns : goal.returns
returns c = search (set_next, remainder_is)

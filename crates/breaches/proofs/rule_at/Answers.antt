-- The rules are told in their order.
use mathlib.Core.Path.{◌≡◌, sym, ap}
use native.Mathlib.Omega.{arith}
use Rattle.breaches.specs.Order.{rule}
use Rattle.breaches.proofs.rule_at.Goals as goal

pub returns-in-0 : goal.returns-in-0
unfolding rule
returns-in-0 c = ap rule (sym c.in-0.is)

pub returns-in-1 : goal.returns-in-1
unfolding rule
returns-in-1 c = ap rule (sym c.in-1.is)

pub returns-in-2 : goal.returns-in-2
unfolding rule
returns-in-2 c = ap rule (sym c.in-2.is)

pub returns-in-3 : goal.returns-in-3
unfolding rule
returns-in-3 c = ap rule (sym c.in-3.is)

pub returns-in-4 : goal.returns-in-4
unfolding rule
returns-in-4 c = ap rule (sym c.in-4.is)

pub returns-in-5 : goal.returns-in-5
unfolding rule
returns-in-5 c = ap rule (sym c.in-5.is)

pub returns-in-6 : goal.returns-in-6
unfolding rule
returns-in-6 c = ap rule (sym c.in-6.is)

pub returns-in-7 : goal.returns-in-7
unfolding rule
returns-in-7 c = ap rule (sym c.in-7.is)

pub returns-in-8 : goal.returns-in-8
unfolding rule
returns-in-8 c = ap rule (sym c.in-8.is)

pub returns-in-9 : goal.returns-in-9
unfolding rule
returns-in-9 c = ap rule (sym c.in-9.is)

pub returns-in-10 : goal.returns-in-10
unfolding rule
returns-in-10 c = ap rule (sym c.in-10.is)

pub returns-in-11 : goal.returns-in-11
unfolding rule
returns-in-11 c = ap rule (sym c.in-11.is)

pub returns-in-12 : goal.returns-in-12
unfolding rule
returns-in-12 c = ap rule (sym c.in-12.is)

pub returns-in-13 : goal.returns-in-13
unfolding rule
returns-in-13 c = ap rule (sym c.in-13.is)

pub returns-in-14 : goal.returns-in-14
unfolding rule
returns-in-14 c = ap rule (sym c.in-14.is)

pub returns-in-15 : goal.returns-in-15
unfolding rule
returns-in-15 c = ap rule (sym c.in-15.is)

pub returns-in-16 : goal.returns-in-16
unfolding rule
returns-in-16 c = ap rule (sym c.in-16.is)

pub returns-in-17 : goal.returns-in-17
unfolding rule
returns-in-17 c = ap rule (sym c.in-17.is)

pub returns-in-18 : goal.returns-in-18
unfolding rule
returns-in-18 c = ap rule (sym c.in-18.is)

pub returns-in-19 : goal.returns-in-19
unfolding rule
returns-in-19 c = ap rule (sym c.in-19.is)

pub returns-in_default : goal.returns-in_default
unfolding rule
returns-in_default c = let e : c.args.k ≡ 20 = omega arith in ap rule (sym e)

-- Each round carries out one order; the row ends where the definition says so.
use mathlib.Core.Path.{◌∙◌}
use native.Mathlib.Omega.{arith}
use Rattle.effects.specs.Holding.{is_some, is_from, is_low}
use Rattle.machine.proofs.Going.{part_some, part_based, going_none, going_hand, going_long, end_count, end_row, going_on, off_row, off_count, left_hand, left_fetched, left_shape, left_row, left_count}
use borrow.Author.Rules.{rules}
use Rattle.machine.proofs.orders.Goals as goal

pub bounds-p-0 : goal.bounds-p-0
bounds-p-0 c = search part_some

pub aimed-at-requires : goal.aimed-at-requires
aimed-at-requires c = search part_based

pub loop-done-init : goal.loop-done-init
loop-done-init c = going_none _ _ c.requires.lent _ _ c.requires.p_bound c.aimed-at.ensures (omega (arith, c.type_inv.p 0))

pub order-requires : goal.order-requires
order-requires c = record { in_hand = search going_hand; order_table = search rules }

pub loop-done-preserved : goal.loop-done-preserved
loop-done-preserved c = going_on _ _ _ _ _ _ c.loop-done.invariant c.loop-done-test.true _ _ c.order.ensures _ c.in-On.is c.order.auto.p

pub shape_of-p-in-Off : goal.shape_of-p-in-Off
shape_of-p-in-Off c = c.order.auto.p ∙ going_long _ _ _ _ _ _ c.loop-done.invariant

pub returns-in-Off : goal.returns-in-Off
returns-in-Off c = record { value = off_count _ _ _ _ _ _ c.loop-done.invariant c.loop-done-test.true _ _ c.order.ensures c.in-Off.is; p_after = off_row _ _ _ _ _ _ c.loop-done.invariant c.loop-done-test.true _ _ c.order.ensures c.in-Off.is }

pub named-requires : goal.named-requires
named-requires c = record { in_hand = left_hand _ _ _ _ _ _ c.loop-done.invariant c.loop-done-test.true _ _ c.order.ensures _ c.in-Left.is; order_table = search rules; fetched = left_fetched _ _ _ _ _ _ c.loop-done.invariant c.loop-done-test.true _ _ c.order.ensures _ c.in-Left.is; w_value = left_shape _ _ _ _ _ _ c.loop-done.invariant c.loop-done-test.true _ _ c.order.ensures _ c.in-Left.is }

pub shape_of-p-in-Left : goal.shape_of-p-in-Left
shape_of-p-in-Left c = c.named.auto.p ∙ c.order.auto.p ∙ going_long _ _ _ _ _ _ c.loop-done.invariant

pub returns-in-Left : goal.returns-in-Left
returns-in-Left c = record { value = left_count _ _ _ _ _ _ c.loop-done.invariant c.loop-done-test.true _ _ c.order.ensures _ c.in-Left.is; p_after = left_row _ _ _ _ _ _ c.loop-done.invariant c.loop-done-test.true _ _ c.order.ensures _ c.in-Left.is _ c.named.ensures }

pub stand-requires : goal.stand-requires
stand-requires c =
    let hand = going_hand _ _ _ _ _ _ c.loop-done.invariant in
    record { p_nonzero = is_some _ _ _ hand; from_le_x = (is_from _ _ _ hand, is_low _ _ _ hand) }

pub shape_of-p : goal.shape_of-p
shape_of-p c = c.stand.auto.p ∙ going_long _ _ _ _ _ _ c.loop-done.invariant

pub returns : goal.returns
returns c = record { value = end_count _ _ _ _ _ _ c.loop-done.invariant c.loop-done-test.false; p_after = end_row _ _ _ _ _ _ c.loop-done.invariant c.loop-done-test.false _ c.stand.ensures }

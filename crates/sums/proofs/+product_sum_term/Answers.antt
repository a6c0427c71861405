-- Each way through the readers' code, from what its calls come to.
use Rattle.std.proofs.Common.{None, inl, inr, refl}
use Rattle.sums.proofs.Ways.{product_fails, product_done, product_on, sum_fails, sum_done, sum_on_up, sum_on_down, end_read, number_read, name_read, kept_read, mark_read, deep_read, bracket_fails, bracket_unclosed, bracket_read, stray_read}
use Rattle.sums.proofs.+product_sum_term.Goals as goal
use Rattle.sums.proofs.+product_sum_term.Goals.{term-then-b-ne-OPEN-via-then-b-ne-OPEN, term-then-b-ne-OPEN-via-else-b-ne-OPEN+then-depth-eq0}

-- the two clauses of a reader, from both together
both_told : {A B : Type 0} → A × B → record { by_index : A; told_inside : B }
both_told p = record { by_index = p.0; told_inside = p.1 }

pub product-returns-in_err-t : goal.product-returns-in_err-t
product-returns-in_err-t t c =
    let p = c.loop-t.invariant.1.1 None (product_fails _ _ _ _ _ _ (c.term.ensures.by_index, c.term.ensures.told_inside) c.in_err-t.was) in
    record { by_index = rw c.from_residual.ensures p.0; told_inside = rw c.from_residual.ensures p.1 }

pub product-returns-in_default : goal.product-returns-in_default
product-returns-in_default t c =
    both_told (product_done _ _ _ _ _ _ _ _ _ _ _ _ c.loop-t.invariant (c.term.ensures.by_index, c.term.ensures.told_inside) c.in_ok-t.was c.times-value.ensures c.mark_of.ensures c.in_default.is)

pub product-loop-t-preserved : goal.product-loop-t-preserved
product-loop-t-preserved t c =
    product_on _ _ _ _ _ c.loop-t.first _ c.next_token-first.result _ _ _ c.in_ok-t.was c.mark_of.ensures c.in-Some.is c.next_token-first.ensures.line_value c.next_token-first.ensures.inside _ _ _ _ refl c.loop-t.invariant
    (c.term.ensures.by_index, c.term.ensures.told_inside) c.times-value.ensures

pub sum-returns-in_err-p : goal.sum-returns-in_err-p
sum-returns-in_err-p t c =
    let p = c.loop-p.invariant.1.1 None (sum_fails _ _ _ _ _ _ _ (c.product.ensures.by_index, c.product.ensures.told_inside) c.in_err-p.was) in
    record { by_index = rw c.from_residual.ensures p.0; told_inside = rw c.from_residual.ensures p.1 }

pub sum-loop-p-preserved-in-Some : goal.sum-loop-p-preserved-in-Some
sum-loop-p-preserved-in-Some t c =
    sum_on_up _ _ _ _ _ c.loop-p.first _ c.next_token-first.result _ _ _ c.in_ok-p.was c.mark_of.ensures c.in-Some.is c.next_token-first.ensures.line_value c.next_token-first.ensures.inside _ _ _ _ _ _ c.loop-p.invariant
    (c.product.ensures.by_index, c.product.ensures.told_inside) c.joined-value.ensures refl

pub sum-returns-in_default-mark_of : goal.sum-returns-in_default-mark_of
sum-returns-in_default-mark_of t c =
    both_told (sum_done _ _ _ _ _ _ _ _ _ _ _ _ _ _ _ c.loop-p.invariant (c.product.ensures.by_index, c.product.ensures.told_inside) c.in_ok-p.was c.joined-value.ensures c.mark_of.ensures c.in_default.is c.mark_of-in-loop-p.ensures c.in_default-mark_of.is)

pub sum-loop-p-preserved : goal.sum-loop-p-preserved
sum-loop-p-preserved t c =
    sum_on_down _ _ _ _ _ c.loop-p.first _ c.next_token-first-in-loop-p.result _ _ _ c.in_ok-p.was c.mark_of-in-loop-p.ensures c.in-Some-mark_of.is c.next_token-first-in-loop-p.ensures.line_value c.next_token-first-in-loop-p.ensures.inside _ _ _ _ _ _ c.loop-p.invariant
    (c.product.ensures.by_index, c.product.ensures.told_inside) c.joined-value.ensures _ c.mark_of.ensures c.in_default.is refl

pub term-returns-in_default : goal.term-returns-in_default
term-returns-in_default t c = both_told (kept_read _ _ _ _ _ _ _ c.in-Word.is c.kept.ensures c.in_default.not-Free)

pub term-returns-then-b-ne-OPEN : goal.term-returns-then-b-ne-OPEN
term-returns-then-b-ne-OPEN t c =
    elim c.then-b-ne-OPEN.branch [
      | term-then-b-ne-OPEN-via-then-b-ne-OPEN w ↦ both_told (mark_read _ _ _ _ _ _ c.in-Mark.is w.if-b-ne-OPEN.true)
      | term-then-b-ne-OPEN-via-else-b-ne-OPEN+then-depth-eq0 w ↦ both_told (deep_read _ _ _ _ _ _ c.in-Mark.is w.if-b-ne-OPEN.false w.if-depth-eq0.true)
    ]

pub term-returns-in_err-v-in-Mark : goal.term-returns-in_err-v-in-Mark
term-returns-in_err-v-in-Mark t c =
    let p = bracket_fails _ _ _ _ _ _ c.in-Mark.is c.next_token-in-Mark.result c.next_token-in-Mark.ensures.line_value c.if-b-ne-OPEN.false c.if-depth-eq0.false _ (c.sum.ensures.by_index, c.sum.ensures.told_inside) c.in_err-v-in-Mark.was in
    record { by_index = rw c.from_residual.ensures p.0; told_inside = rw c.from_residual.ensures p.1 }

pub term-returns-in_err-after-in-Mark : goal.term-returns-in_err-after-in-Mark
term-returns-in_err-after-in-Mark t c =
    let p = bracket_unclosed _ _ _ _ _ _ c.in-Mark.is c.next_token-in-Mark.result c.next_token-in-Mark.ensures.line_value c.if-b-ne-OPEN.false c.if-depth-eq0.false _ (c.sum.ensures.by_index, c.sum.ensures.told_inside) _ _ _ c.in_ok-v-in-Mark.was c.mark_of.ensures c.in_err-after-in-Mark.was in
    record { by_index = rw c.from_residual-in_err-after-in-Mark.ensures p.0; told_inside = rw c.from_residual-in_err-after-in-Mark.ensures p.1 }

pub term-returns-in-End : goal.term-returns-in-End
term-returns-in-End t c = elim c.in-End.is [ inl e ↦ both_told (end_read _ _ _ _ e) | inr e ↦ both_told (stray_read _ _ _ _ e.0 e.1) ]

pub term-returns-in-Number : goal.term-returns-in-Number
term-returns-in-Number t c =
    both_told (number_read _ _ _ _ _ _ _ c.next_token.result c.next_token.ensures.line_value c.next_token.ensures.inside c.in-Number.is c.number.ensures)

pub term-returns-in-Free : goal.term-returns-in-Free
term-returns-in-Free t c =
    both_told (name_read _ _ _ _ _ _ _ c.next_token-in-Word.result c.next_token-in-Word.ensures.line_value c.next_token-in-Word.ensures.inside _ c.in-Word.is c.kept.ensures c.in-Free.is c.value.ensures)

pub term-returns-in_ok-after-in-Mark : goal.term-returns-in_ok-after-in-Mark
term-returns-in_ok-after-in-Mark t c =
    both_told (bracket_read _ _ _ _ _ _ c.in-Mark.is c.next_token-in-Mark.result c.next_token-in-Mark.ensures.line_value c.if-b-ne-OPEN.false c.if-depth-eq0.false _ (c.sum.ensures.by_index, c.sum.ensures.told_inside) _ _ _ c.in_ok-v-in-Mark.was c.mark_of.ensures _ c.next_token-in-Mark-2.result c.in_ok-after-in-Mark.was c.next_token-in-Mark-2.ensures.line_value c.next_token-in-Mark-2.ensures.inside)

-- The rows before that at at are right.
use mathlib.Core.Path.{sym, ◌∙◌}
use native.Mathlib.Omega.{arith}
use Rattle.queue_rows.proofs.Passing.{row_fits, rows_after, passed_none, passed_both, passed_one, rows_right, rows_wrong}
use Rattle.queue_rows.proofs.marked_rows.Goals as goal

pub loop-at-init : goal.loop-at-init
loop-at-init c = passed_none _ _ _ _ _ c.requires.rows_between

pub long_right-requires : goal.long_right-requires
long_right-requires c = record { le_given = c.requires.le_given; given_in_bounds = omega (arith, row_fits _ _ _ c.loop-at.invariant.left c.loop-at-test.true, c.requires.end_in_bounds); marks = c.requires.marks }

pub returns-then-not-long_right : goal.returns-then-not-long_right
returns-then-not-long_right c = rows_wrong _ _ _ _ _ _ c.loop-at.invariant c.loop-at-test.true (sym c.long_right.ensures ∙ c.if-not-long_right.true)

pub overflow_add-at : goal.overflow_add-at
overflow_add-at c = omega (arith, row_fits _ _ _ c.loop-at.invariant.left c.loop-at-test.true, c.requires.end_in_bounds)

pub next_used-at-requires : goal.next_used-at-requires
next_used-at-requires c = record { given_nonzero = (omega (arith, c.requires.le_given), c.requires.le_given.1); rows_between = rows_after _ _ _ c.loop-at.invariant.left c.loop-at-test.true; end_in_bounds = c.requires.end_in_bounds }

pub loop-at-smaller : goal.loop-at-smaller
loop-at-smaller c =
    let next = c.next_used-at.ensures c.args.messages in
    omega (arith, row_fits _ _ _ c.loop-at.invariant.left c.loop-at-test.true, next.here)

pub loop-at-preserved : goal.loop-at-preserved
loop-at-preserved c =
    let right = sym c.long_right.ensures ∙ c.if-not-long_right.false in
    passed_both _ _ _ _ _ _ _ (passed_one _ _ _ _ _ _ c.loop-at.invariant c.loop-at-test.true right) (c.next_used-at.ensures c.args.messages)

pub returns : goal.returns
returns c = rows_right _ _ _ _ _ _ c.loop-at.invariant c.loop-at-test.false

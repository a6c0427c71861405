-- The rows before that at at were never used.
use native.Mathlib.Omega.{arith}
use Rattle.queue_rows.proofs.Passing.{row_fits, passed_none, passed_one}
use Rattle.queue_rows.proofs.Rows.{unused_is_right}
use Rattle.queue_rows.proofs.first_used.Goals as goal

pub loop-at-init : goal.loop-at-init
loop-at-init c = λ messages. passed_none _ _ _ _ messages c.requires.rows_between

pub row_unused-requires : goal.row_unused-requires
row_unused-requires c = record { given_nonzero = c.requires.given_nonzero; given_in_bounds = omega (arith, row_fits _ _ _ (c.loop-at.invariant c.args.end).left c.loop-at-test.true, c.requires.end_in_bounds) }

pub returns-then-not-row_unused : goal.returns-then-not-row_unused
returns-then-not-row_unused c = c.loop-at.invariant

pub overflow_add-at : goal.overflow_add-at
overflow_add-at c = omega (arith, row_fits _ _ _ (c.loop-at.invariant c.args.end).left c.loop-at-test.true, c.requires)

pub loop-at-smaller : goal.loop-at-smaller
loop-at-smaller c = omega (arith, row_fits _ _ _ (c.loop-at.invariant c.args.end).left c.loop-at-test.true)

pub loop-at-preserved : goal.loop-at-preserved
loop-at-preserved c =
    λ messages. passed_one _ _ _ _ messages _ (c.loop-at.invariant messages) c.loop-at-test.true
    (unused_is_right _ _ _ c.requires.given_nonzero.0 (c.row_unused.ensures c.if-not-row_unused.false) _)

pub returns : goal.returns
returns c = c.loop-at.invariant

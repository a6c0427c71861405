-- The rows before that at at are right.
use mathlib.Core.Path.{sym, ◌∙◌}
use native.Mathlib.Omega.{arith}
use Rattle.queue_rows.proofs.Passing.{row_fits, passed_none, passed_one, rows_right, rows_wrong}
use Rattle.queue_rows.proofs.short_rows.Goals as goal

pub loop-at-init : goal.loop-at-init
loop-at-init c = passed_none _ _ _ _ _ c.requires.rows_between

pub row_right-requires : goal.row_right-requires
row_right-requires c = record { given_le_most_capacity = c.requires.given_nonzero.1; given_in_bounds = omega (arith, row_fits _ _ _ c.loop-at.invariant.left c.loop-at-test.true, c.requires.end_in_bounds) }

pub returns-then-not-row_right : goal.returns-then-not-row_right
returns-then-not-row_right c = rows_wrong _ _ _ _ _ _ c.loop-at.invariant c.loop-at-test.true (sym c.row_right.ensures ∙ c.if-not-row_right.true)

pub loop-at-preserved : goal.loop-at-preserved
loop-at-preserved c = passed_one _ _ _ _ _ _ c.loop-at.invariant c.loop-at-test.true (sym c.row_right.ensures ∙ c.if-not-row_right.false)

pub returns-else-not-row_right : goal.returns-else-not-row_right
returns-else-not-row_right c = rows_right _ _ _ _ _ _ (passed_one _ _ _ _ _ _ c.loop-at.invariant c.loop-at-test.true (sym c.row_right.ensures ∙ c.if-not-row_right.false)) (omega arith)

pub returns : goal.returns
returns c = rows_right _ _ _ _ _ _ c.loop-at.invariant c.loop-at-test.false

-- A row that holds a word is the first that is used.
use native.Mathlib.Omega.{arith}
use Rattle.queue_rows.proofs.Passing.{row_fits, passed_none}
use Rattle.queue_rows.proofs.next_used.Goals as goal

pub bounds-im-at : goal.bounds-im-at
bounds-im-at c = omega (arith, row_fits _ _ _ c.requires.rows_between c.if-at-end.true, c.requires.end_in_bounds)

pub returns-then-im-at-ne0 : goal.returns-then-im-at-ne0
returns-then-im-at-ne0 c = λ messages. passed_none _ _ _ _ messages c.requires.rows_between

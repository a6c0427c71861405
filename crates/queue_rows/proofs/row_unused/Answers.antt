-- Four leading words as one number, and all slots.
use mathlib.Core.Bool.{false≢true}
use native.Mathlib.Omega.{arith}
use Rattle.queue_rows.proofs.Rows.{unused_row}
use Rattle.queue_rows.proofs.row_unused.Goals as goal

pub returns-then-four-given : goal.returns-then-four-given
returns-then-four-given c = λ e. absurd (false≢true e)

pub returns : goal.returns
returns c = unused_row _ _ _ c.requires.given_nonzero.0 (λ k. omega (arith, c.type_inv.im k)) _ _ c.four.ensures c.if-four-given.false c.slots_clear.ensures.0

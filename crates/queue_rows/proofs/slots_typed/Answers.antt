-- No slot of a typed row has a high bit.
use native.Mathlib.Omega.{arith}
use Rattle.queue_rows.proofs.Rows.{untyped_slots, gathered_typed}
use Rattle.queue_rows.proofs.slots_typed.Goals as goal

pub returns-then-not-typed : goal.returns-then-not-typed
returns-then-not-typed c = search untyped_slots

pub returns : goal.returns
returns c = gathered_typed _ _ _ _ (λ k. omega (arith, c.type_inv.im k)) _ c.all_bits.ensures c.if-not-typed.false

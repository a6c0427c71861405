-- Four times four words.
use native.Mathlib.Omega.{arith}
use Rattle.four_words.proofs.Many.{gathers_sixteen}
use Rattle.four_words.proofs.sixteen.Goals as goal

pub returns : goal.returns
returns c = gathers_sixteen _ (λ k. omega (arith, c.type_inv.im k)) _ _ _ _ _ c.four.ensures c.four-2.ensures c.four-3.ensures c.four-4.ensures

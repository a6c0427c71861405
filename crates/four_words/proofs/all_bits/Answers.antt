-- The first sixteen words and the last sixteen.
use native.Mathlib.Omega.{arith}
use Rattle.four_words.proofs.Many.{gathers_all}
use Rattle.four_words.proofs.all_bits.Goals as goal

pub returns : goal.returns
returns c = gathers_all _ (λ k. omega (arith, c.type_inv.im k)) _ _ _ _ c.requires.le_words.0 c.requires.le_words.1 c.sixteen.ensures c.sixteen-2.ensures

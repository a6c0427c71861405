-- Each word by itself.
use native.Mathlib.Omega.{arith}
use Rattle.four_words.proofs.Many.{sieved_four}
use Rattle.four_words.proofs.four_free.Goals as goal

pub returns : goal.returns
returns c = sieved_four _ _ (λ k. omega (arith, c.type_inv.im k)) c.requires.all_or_none _ _ _ _ _ _ c.four.ensures c.four-2.ensures c.four-3.ensures

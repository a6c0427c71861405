-- Sixteen or more at once, fewer one by one.
use native.Mathlib.Omega.{arith}
use Rattle.four_words.proofs.Many.{clear_told, gathered_clear}
use Rattle.four_words.proofs.slots_clear.Goals as goal

pub returns-then-given-ge-SIXTEEN : goal.returns-then-given-ge-SIXTEEN
returns-then-given-ge-SIXTEEN c = gathered_clear _ (λ k. omega (arith, c.type_inv.im k)) _ _ _ c.all_bits.ensures

pub returns : goal.returns
returns c = search clear_told

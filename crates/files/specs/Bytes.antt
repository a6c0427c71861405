-- How many words there are in bytes. Assumes nothing.
use Rattle.std.specs.Prelude.{List, [], ◌∷◌, ℕ, ◌+◌, ◌*◌, ◌≤◌, length}
use Rattle.std.proofs.Common.{arith}
use Rattle.paper.specs.Runner.{words_of}

pub words_length : (bytes : List ℕ) → (2 * length (words_of bytes) ≤ length bytes) × (length bytes ≤ 2 * length (words_of bytes) + 1)
unfolding words_of
words_length [] = (omega arith, omega arith)
words_length (b ∷ []) = (omega arith, omega arith)
words_length (b ∷ c ∷ l) = let h = words_length l in (omega arith, omega arith)

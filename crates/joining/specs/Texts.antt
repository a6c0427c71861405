-- What is left of a text. Assumes nothing.
use Rattle.std.specs.Prelude.{◌≡◌, List, ℕ, ◌≤◌, length, drop}

-- the rest begins in the text, and goes on to its end
abbrev pub Begins : List ℕ → List ℕ → Type 0
Begins l rest = (at : ℕ) × (at ≤ length l) × (rest ≡ drop at l)

-- What is told of a refused line lies in it, and an accepted program in its target. Assumes nothing.
use Rattle.std.specs.Prelude.{List, ℕ, ◌≤◌, length}

-- both texts are short enough
abbrev pub Short : List ℕ → List ℕ → Type 0
Short names script = (length names ≤ 524288) × (length script ≤ 524288)

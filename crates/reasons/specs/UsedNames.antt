-- The names that a line uses lie in it, and each token passed leaves fewer. Assumes nothing.
use Rattle.std.specs.Prelude.{List, Option, Some, None, ℕ, ◌<◌}
use Rattle.outside.specs.Reasons.{Lies, left}
use Rattle.reasons.specs.declared.Step.{Step}

-- the longest text
abbrev pub most_text : ℕ
most_text = 524288

-- a word that was found lies in the line
abbrev pub Held : List ℕ → Option (ℕ × ℕ) → Type 0
Held l None = Unit {0}
Held l (Some w) = Lies l w.0 w.1

-- a step past a token leaves fewer than n
abbrev pub Steps : List ℕ → ℕ → Step → Type 0
Steps l n Step.Ends = Unit {0}
Steps l n (Step.Missing from to) = Lies l from to
Steps l n (Step.Past to) = left l to < n

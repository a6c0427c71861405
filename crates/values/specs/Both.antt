-- Two values worked to one, by the pair that the code has of them.
use Rattle.std.specs.Prelude.{ℕ, Err, Ok, Result}
use Rattle.grammar.specs.declared.NoValue.{NoValue}

-- what a pair comes to
abbrev pub worked : (ℕ → ℕ → Result ℕ NoValue) → Result (ℕ × ℕ) NoValue → Result ℕ NoValue
worked f (Ok p) = f p.0 p.1
worked f (Err e) = Err e

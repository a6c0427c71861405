-- What the readers come to, as the definitions have it.
use Rattle.std.specs.Prelude.{ℕ, ◌<◌, List, [], length, None, Option, Result, Some}
use Rattle.grammar.specs.Sums as Sums
use Rattle.grammar.specs.declared.NoValue.{NoValue}
use Rattle.tokens.specs.Shown.{shown, Inside}
use Rattle.tokens.specs.declared.Token.{Token}

-- a reading with the tokens that are left
abbrev pub told : List ℕ → Option (Result ℕ NoValue × Token) → Sums.Reading
told l None = Sums.Reading.outside
told l (Some (v, next)) = Sums.Reading.read v (shown l next)

-- a sum to the end of a line leaves no token
abbrev pub total : Option (Result ℕ NoValue) → Sums.Reading
total None = Sums.Reading.outside
total (Some v) = Sums.Reading.read v []

-- the token that is left stands in the line, and fewer are left than there were
abbrev pub ToldInside : List ℕ → Token → Option (Result ℕ NoValue × Token) → Type 0
ToldInside l before None = Unit {0}
ToldInside l before (Some (v, next)) = Inside l next × (length (shown l next) < length (shown l before))

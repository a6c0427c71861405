-- A step from a place. Assumes nothing.
use Rattle.std.specs.Prelude.{◌≡◌, List, Result, ℕ, length, drop}
use Rattle.grammar.specs.Tokens.{tokens}
use Rattle.tokens.specs.Shown.{shown}
use Rattle.tokens.specs.declared.Token.{Token}
use Rattle.outside.specs.declared.Going.{Going}
use Rattle.outside.specs.declared.Reason.{Reason}
use Rattle.outside.specs.Reasons.{Steps, left}

pub steps_from_any : (l : List ℕ) (at : ℕ) (t : Token) (r : Result Going Reason) → tokens (drop at l) ≡ shown l t
    → ((m : List ℕ) → Steps m (length (shown m t)) r) → Steps l (left l at) r
steps_from_any l at t r e h = rw e (h l)

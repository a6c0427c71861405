-- What the code finds next in a line, as the definitions have it.
use Rattle.std.specs.Prelude.{◌≡◌, Bool, true, false, List, [], ◌∷◌, Option, Some, None, ℕ, ◌-◌, ◌<◌, ◌≤◌, eqb, length, get_or, take, drop}
use Rattle.grammar.specs.Tokens.{Token, digit, tokens}
use Rattle.tokens.specs.declared.Token.{Token as Next}

-- the part of a line from one place to another
abbrev pub part : List ℕ → ℕ → ℕ → List ℕ
part l from to = take (to - from) (drop from l)

-- the tokens from a place on, by the token that stands there
abbrev pub shown : List ℕ → Next → List Token
shown l Next.End = []
shown l (Next.Number from to) = Token.number (part l from to) ∷ tokens (drop to l)
shown l (Next.Word from to) = Token.word (part l from to) ∷ tokens (drop to l)
shown l (Next.Mark b to) = Token.mark b ∷ tokens (drop to l)
shown l (Next.Stray to) = Token.stray ∷ tokens (drop to l)

-- a number and a word are parts of the line; a number has digits alone
abbrev pub Digits : List ℕ → Type 0
Digits ds = (i : ℕ) → i < length ds → digit (get_or ds i 0) ≡ true

abbrev pub Inside : List ℕ → Next → Type 0
Inside l Next.End = Unit {0}
Inside l (Next.Number from to) = (from ≤ to) × ((to ≤ length l) × Digits (part l from to))
Inside l (Next.Word from to) = (from ≤ to) × (to ≤ length l)
Inside l (Next.Mark b to) = Unit {0}
Inside l (Next.Stray to) = Unit {0}

-- whether a token is a mark, and the place after it
abbrev pub marks : ℕ → Next → Option ℕ
marks b Next.End = None
marks b (Next.Number from to) = None
marks b (Next.Word from to) = None
marks b (Next.Mark c to) = elim (eqb c b) [ true ↦ Some to | false ↦ None ]
marks b (Next.Stray to) = None

-- whether no token is left
abbrev pub is_end : Next → Bool
is_end Next.End = true
is_end (Next.Number from to) = false
is_end (Next.Word from to) = false
is_end (Next.Mark b to) = false
is_end (Next.Stray to) = false

-- the first place from one on where a byte is not taken, or the end
pub record EndsAt (taken : ℕ → Bool → Type 0) (l : List ℕ) (at r : ℕ) : Type 0 where
  pub to : r ≤ length l
  pub each : (i : ℕ) → at ≤ i → i < r → taken (get_or l i 0) true
  pub stops : r < length l → (at ≤ r) × taken (get_or l r 0) false

-- Where a test fails first.
use Rattle.std.specs.Prelude.{Bool, cond, ℕ, zero, suc, Option, Some, None}

-- one more number is tested
abbrev pub or_at : Option ℕ → Bool → ℕ → Option ℕ
or_at (Some k) passed n = Some k
or_at None passed n = cond passed None (Some n)

-- the first number below n at which a test fails
unfoldable pub first_failing : ℕ → (ℕ → Bool) → Option ℕ
first_failing zero f = None
first_failing (suc n) f = or_at (first_failing n f) (f n) n

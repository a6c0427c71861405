-- Where a test fails first: every number before passes it. Assumes nothing.
use Rattle.std.specs.Prelude.{Option, Some, None}
use mathlib.Core.Path.{◌≡◌, refl, sym, ◌∙◌}
use mathlib.Core.Bool.{Bool, true, false, true≢false}
use mathlib.Core.Logic.{⊎_elim}
use Prim.Native.Nat.{ℕ, zero, suc, ◌<◌}
use native.Mathlib.Nat.{eq-or-lt_of_le}
use native.Mathlib.Omega.{arith}
use Rattle.paper.specs.Tests.{every}
use Rattle.laws.specs.Every.{every_fails}
use Rattle.breaches.specs.First.{or_at, first_failing}

-- what it says that a test fails first at a number, or nowhere
pub record FailsFirst (n k : ℕ) (f : ℕ → Bool) : Type 0 where
  pub inside : k < n
  pub before : every k f ≡ true
  pub fails : f k ≡ false

abbrev pub Says : ℕ → (ℕ → Bool) → Option ℕ → Type 0
Says n f (Some k) = FailsFirst n k f
Says n f None = every n f ≡ true

-- and so it does
one_more : (n : ℕ) (f : ℕ → Bool) (x : Option ℕ) (b : Bool) → Says n f x → f n ≡ b → Says (suc n) f (or_at x b n)
unfolding every
one_more n f (Some k) b h e = record { inside = omega (arith, h.inside); before = h.before; fails = h.fails }
one_more n f None true h e = rw (h, e)
one_more n f None false h e = record { inside = omega arith; before = h; fails = e }

pub first_says : (n : ℕ) (f : ℕ → Bool) → Says n f (first_failing n f)
unfolding first_failing every
first_says zero f = refl
first_says (suc n) f = one_more n f (first_failing n f) (f n) (first_says n f) refl

-- all numbers pass
pub first_nowhere : (n : ℕ) (f : ℕ → Bool) → every n f ≡ true → first_failing n f ≡ None
first_nowhere n f h = go (first_failing n f) (first_says n f)
  where
    go : (x : Option ℕ) → Says n f x → x ≡ None
    go (Some k) w = absurd (true≢false (sym h ∙ every_fails n k f w.inside w.fails))
    go None w = refl

-- there is one first number alone
pub first_at : (n k : ℕ) (f : ℕ → Bool) → FailsFirst n k f → first_failing n f ≡ Some k
unfolding first_failing
first_at zero k f h = absurd (let l = h.inside in omega arith)
first_at (suc n) k f h =
    ⊎_elim (λ e. rw (first_nowhere n f (rw (← e) h.before), ← e, h.fails))
    (λ l. rw (first_at n k f record { inside = l; before = h.before; fails = h.fails }))
    (eq-or-lt_of_le {n = k} {m = n} (let l = h.inside in omega arith))

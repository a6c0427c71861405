-- The numbers of two refusals, compared. Assumes nothing.
use mathlib.Core.Path.{◌≡◌}
use mathlib.Core.Bool.{true, false}
use Prim.Native.Nat.{ℕ, ◌<◌, ◌≤◌}
use borrow.Author.Tests.{lt-ltb, le-ltb}
use lib.Dec.{ltb}
use Rattle.grammar.specs.Texts.{number}
use Rattle.grammar.specs.declared.Refusal.{Refusal}

module _ (q r : Refusal) {n m : ℕ} (of-q : n ≡ number q) (of-r : m ≡ number r) where
  -- the lower number goes before
  pub goes_before : n < m → ltb (number q) (number r) ≡ true
  goes_before h = rw (← of-q, ← of-r) (lt-ltb n m h)

  -- the same number, or a higher one, does not
  pub goes_not_before : m ≤ n → ltb (number q) (number r) ≡ false
  goes_not_before h = rw (← of-q, ← of-r) (le-ltb n m h)

-- The lines `0` that are passed from the end of a text. Assumes nothing.
use mathlib.Core.Path.{◌≡◌, refl}
use mathlib.Core.Bool.{Bool, true, false, ◌&&◌}
use mathlib.Core.List.{List}
use mathlib.Core.Logic.{◌≢◌}
use Prim.Native.Nat.{ℕ, zero, suc, ◌+◌, ◌-◌, ◌*◌, ◌<◌, ◌≤◌}
use native.Mathlib.Omega.{arith}
use lib.Dec.{eqb}
use lib.ListN.{length, get_or}
use Rattle.paper.specs.Tests.{every}
use Rattle.laws.specs.Every.{every_none, every_more}
use Rattle.showing.specs.Zeros.{starts_line, is_zero_line, ZeroLines}

-- a line starts at 0, and else after a byte 10
pub starts_first : (text : List ℕ) (at : ℕ) → at ≡ 0 → true ≡ starts_line text at
starts_first text at e = rw e

pub starts_later : (text : List ℕ) (at : ℕ) → at ≢ 0 → eqb (get_or text (at - 1) 0) 10 ≡ starts_line text at
starts_later text zero ne = absurd (ne refl)
starts_later text (suc k) ne = let e : suc k - 1 ≡ k = omega arith in rw e

-- a line `0` by its two bytes and its start
pub zero_is : (text : List ℕ) (at : ℕ) (a b r : Bool) → a ≡ (eqb (get_or text at 0) 48 && eqb (get_or text (at + 1) 0) 10) → b ≡ starts_line text at
    → r ≡ (a && b) → r ≡ is_zero_line text at
zero_is text at a b r ea eb er = rw (er, ea, eb)

-- so many lines `0` are passed, down to a place
pub record Passed (text : List ℕ) (lines end : ℕ) : Type 0 where
  pub placed : end + 2 * lines ≡ length text
  pub each : every lines (λ k. is_zero_line text (length text - 2 * (k + 1))) ≡ true

pub none_passed : (text : List ℕ) → Passed text 0 (length text)
none_passed text = record { placed = omega arith; each = every_none _ }

module _ (text : List ℕ) (lines end : ℕ) (p : Passed text lines end) where
  next : 2 ≤ end → length text - 2 * (lines + 1) ≡ end - 2
  next h = omega (arith, p.placed)

  pub one_passed : 2 ≤ end → (r : Bool) → r ≡ is_zero_line text (end - 2) → r ≡ true → Passed text (lines + 1) (end - 2)
  one_passed h r e t =
      record { placed = omega (arith, p.placed); each = every_more lines _ p.each (rw (next h, ← e) t) }

  pub passed_all : end < 2 → ZeroLines text lines
  passed_all h = record { inside = omega (arith, p.placed); each = p.each; last = λ l. absurd (omega (arith, p.placed)) }

  pub passed_some : 2 ≤ end → (r : Bool) → r ≡ is_zero_line text (end - 2) → r ≡ false → ZeroLines text lines
  passed_some h r e t = record { inside = omega (arith, p.placed); each = p.each; last = λ _. rw (next h, ← e) t }

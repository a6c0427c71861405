-- How many orders a row has: one at least, and at most so many; before each of them the task is quiet. Assumes nothing.
use Rattle.std.specs.Prelude.{◌≡◌, Bool, cond, ◌||◌, List}
use Rattle.std.proofs.Math.Path.{refl}
use Rattle.std.proofs.Common.{ap}
use Rattle.std.proofs.Math.Bool.{true, false}
use Prim.Native.Nat.{ℕ, zero, suc, ◌<◌, ◌≤◌}
use native.Mathlib.Omega.{arith}
use borrow.Author.Tests.{leb-false}
use Rattle.std.proofs.Math.ListN.{get_or}
use Rattle.effects.specs.Parts.{part_ordered}
use Rattle.machine.specs.InRow.{part_after, ends_row, row_length}
use Rattle.effects.specs.declared.Segment.{Segment}

-- a row has one order at least, and at most so many
module _ (g : Segment) where
  pub row_some : (p : List ℕ) (n : ℕ) → 0 < n → 0 < row_length g p n
  unfolding row_length
  row_some p zero h = h
  row_some p (suc n) h = omega arith

  pub row_few : (p : List ℕ) (n : ℕ) → row_length g p n ≤ n
  unfolding row_length
  row_few p zero = omega arith
  row_few p (suc n) = go (ends_row g p) (row_few (part_ordered g p) n)
    where
      go : (b : Bool) → row_length g (part_ordered g p) n ≤ n → suc (cond b 0 (row_length g (part_ordered g p) n)) ≤ suc n
      go true h = omega arith
      go false h = omega arith

  -- one order, and those after it
  row_shift : (p : List ℕ) (k : ℕ) → part_after g (part_ordered g p) k ≡ part_after g p (suc k)
  row_shift p zero = refl
  row_shift p (suc k) = ap (part_ordered g) (row_shift p k)

  quiet_after : (a b : Bool) → (a || b) ≡ false → a ≡ false
  quiet_after true b e = e
  quiet_after false b e = refl

  goes_quiet : (p : List ℕ) → ends_row g p ≡ false → get_or (part_ordered g p) 8 0 < 4
  unfolding ends_row
  goes_quiet p e = leb-false 4 (get_or (part_ordered g p) 8 0) (quiet_after _ _ e)

  -- before each order of a row the task had no error and nothing pending
  pub row_quiet : (p : List ℕ) (n : ℕ) → get_or p 8 0 < 4 → (k : ℕ) → k < row_length g p n → get_or (part_after g p k) 8 0 < 4
  unfolding row_length
  row_quiet p zero calm k h = absurd (omega arith)
  row_quiet p (suc n) calm zero h = calm
  row_quiet p (suc n) calm (suc k) h = go (ends_row g p) refl h (row_quiet (part_ordered g p) n)
    where
      go : (b : Bool) → ends_row g p ≡ b → suc k < suc (cond b 0 (row_length g (part_ordered g p) n))
          → (get_or (part_ordered g p) 8 0 < 4 → (j : ℕ) → j < row_length g (part_ordered g p) n → get_or (part_after g (part_ordered g p) j) 8 0 < 4) → get_or (part_after g p (suc k)) 8 0 < 4
      go true e l again = absurd (omega arith)
      go false e l again = rw (row_shift p k) at (again (goes_quiet p e) k (omega arith))

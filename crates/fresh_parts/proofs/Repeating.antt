-- Rows written one after another. Assumes nothing.
use mathlib.Core.Path.{◌≡◌, sym}
use mathlib.Core.List.{List}
use Prim.Native.Nat.{ℕ, suc, ◌+◌, ◌<◌, ◌≤◌}
use native.Mathlib.Numerals.{add-one}
use native.Mathlib.Omega.{arith}
use lib.ListN.{length, length-append}
use Rattle.paper.specs.Plans.{joined}
use Rattle.laws.specs.Consecutive.{rising}
use Rattle.writes.specs.Written.{written, written_none, then_on, kept_length}
use Rattle.writes.specs.Zeroed.{Zeroed, later_zeroed}

-- the first k lists of f are written from index at on
pub record FirstRows (f : ℕ → List ℕ) (o : List ℕ) (at k next : ℕ) (out : List ℕ) : Type 0 where
  pub made : out ≡ written o at (joined k f)
  pub place : next ≡ at + length (joined k f)

module _ (f : ℕ → List ℕ) (o : List ℕ) (at : ℕ) where
  pub no_rows : FirstRows f o at 0 at o
  no_rows = record { made = sym (written_none o at); place = omega arith }

  module _ (k next : ℕ) (out : List ℕ) (r : FirstRows f o at k next out) where
    pub row_more : (out' vs : List ℕ) (next' : ℕ) → vs ≡ f k → (next' ≡ next + length vs) × (out' ≡ written out next vs) → FirstRows f o at (k + 1) next' out'
    row_more out' vs next' e w =
        record {
          made = rw (add-one, ← e) (then_on o out out' at next (joined k f) vs r.made r.place w.1);
          place = rw (add-one, ← e) (omega (arith, r.place, w.0, length-append (joined k f) vs));
        }

    -- the next row lies among the first n
    row_inside : (n : ℕ) → k < n → length (joined k f) + length (f k) ≤ length (joined n f)
    row_inside n h =
        let up : (j : ℕ) → length (joined j f) ≤ length (joined (suc j) f) = λ j. omega (arith, length-append (joined j f) (f j)) in
        omega (arith, length-append (joined k f) (f k), rising (λ j. length (joined j f)) up (suc k) n h)

    pub row_room : (n : ℕ) → k < n → at + length (joined n f) ≤ length o → next + length (f k) ≤ length out
    row_room n h room = omega (arith, r.place, kept_length o out at _ r.made, row_inside n h)

    pub row_zeroed : (n : ℕ) → k < n → Zeroed o at (length (joined n f)) → Zeroed out next (length (f k))
    row_zeroed n h z =
        later_zeroed o out at (joined k f) at _ next _ r.made (omega (arith, r.place)) z (omega (arith, r.place))
        (omega (arith, r.place, row_inside n h))

    pub rows_done : (n : ℕ) → n ≤ k → k ≤ n → (next ≡ at + length (joined n f)) × (out ≡ written o at (joined n f))
    rows_done n h l = let z : n ≡ k = omega arith in rw z (r.place, r.made)

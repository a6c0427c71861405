-- One division of two sums that a float holds is the share. Assumes nothing.
use Rattle.std.specs.Prelude.{None, Some}
use mathlib.Core.Path.{◌≡◌, refl, sym, ap, ◌∙◌}
use mathlib.Core.Bool.{false}
use mathlib.Core.List.{List}
use Prim.Native.Nat.{ℕ, ◌≤◌, ◌<◌}
use native.Mathlib.Omega.{arith}
use lib.Dec.{T, le→leb}
use lib.IntN.{pos}
use borrow.Author.Tests.{eq-eqb, ne_eqb}
use lib.Ieee.{binary64, round, div, of_int, in_float}
use Rattle.paper.specs.Counts.{task_ticks, all_ticks, share, share_of}
use Rattle.shares.specs.Percent.{sums_end}
use Rattle.shares.proofs.Quotients.{quotient_rounded}

-- a number of ticks goes into a float without loss
pub float_holds : (n : ℕ) → n < sums_end → T (in_float binary64 (pos n))
unfolding in_float
float_holds n h = le→leb n _ (omega arith)

-- of no ticks at all; of some
none_of : (ticks all : ℕ) → all ≡ 0 → None ≡ share_of ticks all
none_of ticks all h = rw (eq-eqb all 0 h) refl

some_of : (ticks all : ℕ) → ¬ (all ≡ 0) → Some (round binary64 false ticks all) ≡ share_of ticks all
some_of ticks all h = rw (ne_eqb all 0 h) refl

pub share_none : (all i : ℕ) (l : List ℕ) → all ≡ all_ticks l → all ≡ 0 → None ≡ share l i
unfolding share
share_none all i l p h = none_of (task_ticks l i) (all_ticks l) (sym p ∙ h)

pub share_rounded : (i all : ℕ) (l : List ℕ) → 0 < all → all_ticks l ≡ all → share l i ≡ Some (round binary64 false (task_ticks l i) all)
unfolding share
share_rounded i all l h p = ap (share_of (task_ticks l i)) p ∙ sym (some_of (task_ticks l i) all (λ e. omega arith))

pub share_divided : (ticks all i : ℕ) (l : List ℕ) → ticks ≡ task_ticks l i → ticks ≤ all_ticks l → all ≡ all_ticks l → all < sums_end → ¬ (all ≡ 0)
    → Some (div binary64 (of_int binary64 (pos ticks)) (of_int binary64 (pos all))) ≡ share l i
share_divided ticks all i l p m q s h =
    ap Some (quotient_rounded binary64 ticks all (omega arith) (omega arith) (omega arith)) ∙
    ap (λ (t : ℕ). Some (round binary64 false t all)) p ∙ sym (share_rounded i all l (omega arith) (sym q))

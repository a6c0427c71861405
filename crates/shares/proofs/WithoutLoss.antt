-- What a share tells, of 97 counts of which none is past its end: nothing is lost on the way to the division, and nothing in it where
-- all ticks are a power of two; a task without ticks has share 0; no share is below 0 or above 1. Assumes nothing.
use Rattle.std.specs.Prelude.{Some}
use mathlib.Core.Path.{◌≡◌, refl, sym, ap, ◌∙◌, subst}
use mathlib.Core.Bool.{Bool, true, false}
use mathlib.Core.List.{List}
use Prim.Native.Nat.{ℕ, suc, ◌+◌, ◌-◌, ◌*◌, ◌^◌, ◌≤◌, ◌<◌}
use native.Mathlib.Nat.{mul_assoc, lt_of_lt_of_le, lt_irrefl}
use native.Mathlib.Omega.{arith}
use lib.Dec.{T, ltb, lit<}
use lib.IntN.{pos}
use lib.ListN.{length, get_or}
use borrow.Author.Tests.{ltb-true, ltb-false}
use lib.Pow.{pow_pos, pow-add, pow_mono, shl_lt}
use lib.Ieee.{Float, fin, binary64, round, of_int, le, low, emax}
use lib.Ieee.Exact.{HasValue, round_exact}
use lib.Ieee.Back.{round_whole}
use lib.Ieee.Order.{round_mono}
use lib.Ieee.Scale.{round_same}
use Rattle.paper.specs.Image.{most_tasks}
use Rattle.paper.specs.Counts.{all_counts, most_count, task_ticks, all_ticks, share}
use Rattle.counting.specs.Growing.{sum_bounded}
use Rattle.shares.specs.Percent.{sums_bits, sums_end}
use Rattle.shares.proofs.Sums.{task_among_all, rowless_ticks}
use Rattle.shares.proofs.Dividing.{share_rounded}

-- the counts of a night: 97 of them, none past its end
pub record Night (l : List ℕ) : Type 0 where
  pub long : length l ≡ all_counts
  pub ended : (k : ℕ) → get_or l k 0 ≤ most_count

-- all ticks stay below 2 ^ 39, and so do a task's
pub all_below : (l : List ℕ) → Night l → all_ticks l < sums_end
all_below l n = omega (arith, n.long, sum_bounded l n.ended)

pub task_below : (l : List ℕ) (i : ℕ) → Night l → task_ticks l i < sums_end
task_below l i n = omega (arith, all_below l n, task_among_all i l)

-- a number of ticks as a float is that number
held : (n : ℕ) → n < sums_end → HasValue (of_int binary64 (pos n)) false n 1
unfolding of_int
held n h = round_whole binary64 false n (omega arith)

pub all_held : (l : List ℕ) → Night l → HasValue (of_int binary64 (pos (all_ticks l))) false (all_ticks l) 1
all_held l n = held (all_ticks l) (all_below l n)

pub task_held : (l : List ℕ) (i : ℕ) → Night l → HasValue (of_int binary64 (pos (task_ticks l i))) false (task_ticks l i) 1
task_held l i n = held (task_ticks l i) (task_below l i n)

-- a quotient by a power of two loses nothing in rounding
fill : (n k : ℕ) → k ≤ n → n ≡ n - k + k
fill n k h = omega arith

by_power : (n k : ℕ) → n < sums_end → k < sums_bits → HasValue (round binary64 false n (2 ^ k)) false n (2 ^ k)
by_power n k h b =
    let spare = low binary64 - k in
    let fits : sums_bits + spare ≤ low binary64 + suc (emax binary64) = omega arith in
    round_exact binary64 false n (2 ^ k) n spare (pow_pos k) (omega arith) (lt_of_lt_of_le (shl_lt sums_bits spare h) (pow_mono fits))
    (ap (λ (x : ℕ). n * 2 ^ x) (fill (low binary64) k (omega arith)) ∙ ap (λ (x : ℕ). n * x) (pow-add 2 spare k) ∙ sym (mul_assoc n (2 ^ spare) (2 ^ k)))

small_power : (k : ℕ) → 2 ^ k < sums_end → k < sums_bits
small_power k h = told (ltb k sums_bits) refl
  where
    told : (b : Bool) → ltb k sums_bits ≡ b → k < sums_bits
    told true e = ltb-true k sums_bits e
    told false e = absurd (lt_irrefl (2 ^ k) (lt_of_lt_of_le h (pow_mono (ltb-false k sums_bits e))))

-- where all ticks are a power of two, the share is exactly the quotient
pub share_exact : (l : List ℕ) (i k : ℕ) → Night l → all_ticks l ≡ 2 ^ k
    → (x : Float) × (share l i ≡ Some x) × HasValue x false (task_ticks l i) (2 ^ k)
share_exact l i k n p = (
  round binary64 false (task_ticks l i) (2 ^ k),
  share_rounded i (2 ^ k) l (pow_pos k) p,
  by_power (task_ticks l i) k (task_below l i n) (small_power k (subst (λ (a : ℕ). a < sums_end) p (all_below l n))),
)

-- a task without ticks in a counted night has share 0, the positive one; so has one that cannot be
abbrev pub nothing : Float
nothing = fin false 0 (pos 0)

abbrev pub everything : Float
everything = fin false 1 (pos 0)

nothing_rounded : round binary64 false 0 1 ≡ nothing
unfolding round
nothing_rounded = refl

everything_rounded : round binary64 false 1 1 ≡ everything
unfolding round
everything_rounded = refl

pub share_zero : (l : List ℕ) (i : ℕ) → 0 < all_ticks l → task_ticks l i ≡ 0 → share l i ≡ Some nothing
share_zero l i h p =
    share_rounded i (all_ticks l) l h refl ∙ ap (λ (t : ℕ). Some (round binary64 false t (all_ticks l))) p ∙
    ap Some (round_same binary64 false 0 (all_ticks l) 0 1 h (lit< tt) (omega arith) ∙ nothing_rounded)

pub share_rowless : (l : List ℕ) (i : ℕ) → 0 < all_ticks l → most_tasks ≤ i → share l i ≡ Some nothing
share_rowless l i h p = share_zero l i h (sym (rowless_ticks i l p))

-- a share is at least 0 and at most 1
pub share_within : (l : List ℕ) (i : ℕ) → 0 < all_ticks l → (x : Float) × (share l i ≡ Some x) × T (le nothing x) × T (le x everything)
share_within l i h =
    let x = round binary64 false (task_ticks l i) (all_ticks l) in (
      x,
      share_rounded i (all_ticks l) l h refl,
      subst (λ (y : Float). T (le y x)) nothing_rounded (round_mono binary64 0 1 (task_ticks l i) (all_ticks l) (lit< tt) h (omega arith)),
      subst (λ (y : Float). T (le x y)) everything_rounded
          (round_mono binary64 (task_ticks l i) (all_ticks l) 1 1 h (lit< tt) (omega (arith, task_among_all i l))),
    )

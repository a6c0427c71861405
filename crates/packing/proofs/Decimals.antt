-- How many decimal digits a number has, and its last digits. Assumes nothing.
use Rattle.std.specs.Int.{from_bool}
use Rattle.std.proofs.str.Laws.{order}
use Rattle.std.proofs.Common.{lt-ltb, le-ltb, ⊎_elim}
use mathlib.Core.Path.{◌≡◌, refl, sym, ◌∙◌}
use mathlib.Core.List.{List, [], ◌∷◌, ◌++◌}
use mathlib.Core.Bool.{Bool, true, false}
use Prim.Native.Nat.{ℕ, zero, suc, ◌+◌, ◌*◌, ◌-◌, ◌/◌, ◌%◌, ◌<◌, ◌≤◌}
use native.Mathlib.Nat.{add-zero}
use native.Mathlib.Numerals.{add-one}
use native.Mathlib.Omega.{arith}
use borrow.Author.Tests.{leb-true, leb-false, ltb-true, ltb-false, le-leb, lt-leb}
use lib.Dec.{leb, ltb}
use lib.ListN.{length, drop, length-append}
use Rattle.paper.specs.Runner.{decimal, newline}
use Rattle.laws.specs.Decimal.{decimal_one, decimal_more, end_of}
use Rattle.packing.specs.Packed.{above}

-- the most of k + 1 digits, and the least
abbrev most : ℕ → ℕ
most zero = 9
most (suc k) = 10 * most k + 9

abbrev least : ℕ → ℕ
least zero = 0
least (suc k) = suc (most k)

-- the tenth of a number above the most of k + 1 digits is not below the least of them
tenth : (k n : ℕ) → most k < n → (10 ≤ n) × (least k ≤ n / 10)
tenth zero n h = omega arith
tenth (suc k) n h = omega arith

-- a number between the two has k + 1 digits
exact : (k n : ℕ) → least k ≤ n → n ≤ most k → length (decimal n) ≡ suc k
exact zero n l h = rw (decimal_one n (omega arith))
exact (suc k) n l h =
    let t = tenth k n l in
    rw (decimal_more n t.0, length-append, exact k (n / 10) t.1 (omega arith)) (add-one (suc k))

-- a test by what it tests
pub above_not : (n m : ℕ) → n ≤ m → above n m ≡ 0
unfolding above
above_not n m h = rw (le-leb n m h)

pub above_yes : (n m : ℕ) → m < n → above n m ≡ 1
unfolding above
above_yes n m h = rw (lt-leb n m h)

-- 1, and 1 more for each of the first k mosts that a number is above
abbrev counts : ℕ → ℕ → ℕ
counts zero n = 1
counts (suc k) n = counts k n + above n (most k)

-- a number above them all
full : (k n : ℕ) → least k ≤ n → counts k n ≡ suc k
full zero n h = refl
full (suc k) n h = rw (above_yes n (most k) h, full k n (omega (arith, tenth k n h))) (add-one (suc k))

-- any number has so many digits
counted : (k n : ℕ) → n ≤ most k → counts k n ≡ length (decimal n)
counted zero n h = sym (exact zero n (omega arith) h)
counted (suc k) n h = go (leb n (most k)) refl (λ g. counted k n g)
  where
    go : (b : Bool) → leb n (most k) ≡ b → (n ≤ most k → counts k n ≡ length (decimal n))
        → counts k n + above n (most k) ≡ length (decimal n)
    go true e f = let g : n ≤ most k = leb-true n (most k) e in rw (above_not n (most k) g, add-zero) (f g)
    go false e f = let g : most k < n = leb-false n (most k) e in full (suc k) n g ∙ sym (exact (suc k) n g h)

-- a test as a number
test_above : (n m : ℕ) → from_bool (ltb m n) ≡ above n m
test_above n m = ⊎_elim (λ h. rw (lt-ltb m n h, above_yes n m h)) (λ h. rw (le-ltb m n h, above_not n m h)) (order m n)

pub word_digits : (n : ℕ) → n < 65536 → (a b c d : ℕ) → a ≡ from_bool (ltb 9 n) → b ≡ from_bool (ltb 99 n) → c ≡ from_bool (ltb 999 n)
    → d ≡ from_bool (ltb 9999 n) → 1 + a + b + c + d ≡ length (decimal n)
word_digits n h a b c d ea eb ec ed =
    rw (ea, eb, ec, ed, test_above n 9, test_above n 99, test_above n 999, test_above n 9999) (counted 4 n (omega arith))

-- the last c digits
abbrev pub last : ℕ → ℕ → List ℕ
last zero n = []
last (suc c) n = last c (n / 10) ++ ((48 + n % 10) ∷ [])

-- a number's digits are its last ones, so many as they are
one_digit : (n : ℕ) → n < 10 → last (length (decimal n)) n ≡ decimal n
one_digit n h = let e : n % 10 ≡ n = omega arith in rw (decimal_one n h, e)

pub all_digits : (k n : ℕ) → n < end_of k → last (length (decimal n)) n ≡ decimal n
all_digits zero n h = one_digit n h
all_digits (suc k) n h = go (ltb n 10) refl (all_digits k (n / 10) (omega arith))
  where
    go : (b : Bool) → ltb n 10 ≡ b → last (length (decimal (n / 10))) (n / 10) ≡ decimal (n / 10)
        → last (length (decimal n)) n ≡ decimal n
    go true e f = one_digit n (ltb-true n 10 e)
    go false e f = rw (decimal_more n (ltb-false n 10 e), length-append, add-one, f)

-- of five digits and the end of a line, the last c and the end
pub without : (c n : ℕ) → c ≤ 5 → drop (5 - c) (last 5 n ++ newline) ≡ last c n ++ newline
without zero n h = refl
without (suc zero) n h = refl
without (suc (suc zero)) n h = refl
without (suc (suc (suc zero))) n h = refl
without (suc (suc (suc (suc zero)))) n h = refl
without (suc (suc (suc (suc (suc zero))))) n h = refl
without (suc (suc (suc (suc (suc (suc c)))))) n h = absurd (omega arith)

-- Laws of values: the range, differences, products and digits. Assumes nothing.
use Rattle.std.specs.Prelude.{Err, Ok, Result}
use mathlib.Core.Path.{◌≡◌, refl, ◌∙◌}
use mathlib.Core.Bool.{Bool, true, false, ◌&&◌}
use mathlib.Core.List.{List, [], ◌∷◌, ◌++◌}
use Prim.Native.Nat.{ℕ, ◌+◌, ◌-◌, ◌*◌, ◌<◌, ◌≤◌, min}
use native.Mathlib.Nat.{mul-le-mul_right}
use native.Mathlib.Numerals.{add-one}
use native.Mathlib.Omega.{arith}
use borrow.Author.Tests.{ltb-true, ltb-false, leb-true, lt-ltb, le-ltb, le-leb, lt-leb}
use lib.Dec.{ltb}
use lib.ListN.{length, get_or, take}
use lib.Seq.{take-suc, take_all}
use Rattle.grammar.specs.Tokens.{digit}
use Rattle.grammar.specs.Sums.{in_range, decimal, minus, end_of_range}
use Rattle.grammar.specs.declared.NoValue.{NoValue}

-- a number below the end of the range is a value
pub lies_within : (n : ℕ) → n < end_of_range → Ok n ≡ in_range n
lies_within n h = rw (in_range, lt-ltb n end_of_range h)

-- a number from the end of the range on is no value
pub lies_beyond : (n : ℕ) → end_of_range ≤ n → Err NoValue.Beyond ≡ in_range n
lies_beyond n h = rw (in_range, le-ltb n end_of_range h)

-- a difference that is not below 0 is a value
pub difference_within : (x y : ℕ) → y ≤ x → Ok (x - y) ≡ minus x y
difference_within x y h = rw (minus, le-leb y x h)

-- a difference below 0 is none
pub difference_beyond : (x y : ℕ) → x < y → Err NoValue.Beyond ≡ minus x y
difference_beyond x y h = rw (minus, lt-leb y x h)

-- the product of two words fits two words
pub product_fits : (x y : ℕ) → x < 65536 → y < 65536 → x * y < 4294967296
product_fits x y h g =
    let k : x ≤ 65535 = omega arith in
    omega (arith, mul-le-mul_right y k)

-- a number that is cut off at the end of the range lies in it or beyond it as before
cut_alike : (n : ℕ) → in_range (min n end_of_range) ≡ in_range n
cut_alike n = by_test (ltb n end_of_range) refl
  where
    by_test : (t : Bool) → ltb n end_of_range ≡ t → in_range (min n end_of_range) ≡ in_range n
    by_test true e =
        let m : min n end_of_range ≡ n = omega (arith, ltb-true n end_of_range e) in
        rw m
    by_test false e =
        let m : min n end_of_range ≡ end_of_range = omega (arith, ltb-false n end_of_range e) in
        rw m (lies_beyond n (ltb-false n end_of_range e))

-- two tests that hold together hold each
each_holds : (s t : Bool) → (s && t) ≡ true → (s ≡ true) × (t ≡ true)
each_holds true t e = (refl, e)
each_holds false t e = (e, cc)

-- a digit lies between `0` and `9`
pub digit_lies : (b : ℕ) → digit b ≡ true → (48 ≤ b) × (b ≤ 57)
digit_lies b e =
    let t = each_holds _ _ e in
    (leb-true _ _ t.0, leb-true _ _ t.1)

-- a number with one digit more
last_digit : (n : ℕ) (ds : List ℕ) (d : ℕ) → decimal n (ds ++ (d ∷ [])) ≡ decimal n ds * 10 + (d - 48)
unfolding decimal
last_digit n [] d = refl
last_digit n (e ∷ ds) d = last_digit (n * 10 + (e - 48)) ds d

-- the digits read so far, cut off at the end of the range
module _ (ds : List ℕ) (k n : ℕ) (so_far : n ≡ min (decimal 0 (take k ds)) end_of_range) where
  -- one digit more is read
  pub one_more : (m : ℕ) → k < length ds → m ≡ min (n * 10 + (get_or ds k 0 - 48)) end_of_range → m ≡ min (decimal 0 (take (k + 1) ds)) end_of_range
  one_more m h e = rw (add-one, take-suc ds k 0 h, last_digit) (omega arith)

  -- all digits are read
  pub all_read : (w : Result ℕ NoValue) → length ds ≤ k → w ≡ in_range n → w ≡ in_range (decimal 0 ds)
  all_read w h e = e ∙ rw (so_far, take_all k ds h) (cut_alike (decimal 0 ds))

-- Results of words: the machine's bits are the paper's, bit by bit; a product of words fits. Assumes nothing.
use mathlib.Core.Path.{◌≡◌, refl, ap, ◌∙◌}
use mathlib.Core.Logic.{◌≢◌}
use Prim.Native.Nat.{ℕ, zero, suc, ◌+◌, ◌*◌, ◌/◌, ◌%◌, ◌^◌, ◌<◌, ◌≤◌, min, max}
use native.Mathlib.Nat.{mul-le-mul}
use native.Mathlib.Omega.{arith}
use borrow.Author.Tests.{eq-eqb, ne_eqb, lt-ltb, le-ltb}
use lib.Bits.{differ, bit_and, bit_or, bit_xor, and_step, or_step, xor_step}
use Rattle.paper.specs.Orders.{bitwise, on_bits, compared}

-- an operation that goes bit by bit is its own bits
bits : (g f : ℕ → ℕ → ℕ) → g 0 0 ≡ 0 → ((x y : ℕ) → g x y ≡ g (x / 2) (y / 2) * 2 + f (x % 2) (y % 2))
    → (n x y : ℕ) → x < 2 ^ n → y < 2 ^ n → g x y ≡ bitwise f n x y
bits g f none next zero x y hx hy =
    let ex : x ≡ 0 = omega arith in
    let ey : y ≡ 0 = omega arith in
    rw (ex, ey, none)
bits g f none next (suc n) x y hx hy =
    let r : g (x / 2) (y / 2) ≡ bitwise f n (x / 2) (y / 2) = bits g f none next n (x / 2) (y / 2) (omega arith) (omega arith) in
    next x y ∙ rw r (omega arith)

odd_sum : (x y : ℕ) → x < 2 → y < 2 → differ x y ≡ (x + y) % 2
odd_sum zero zero hx hy = refl
odd_sum zero (suc zero) hx hy = refl
odd_sum (suc zero) zero hx hy = refl
odd_sum (suc zero) (suc zero) hx hy = refl
odd_sum zero (suc (suc y)) hx hy = absurd (omega arith)
odd_sum (suc zero) (suc (suc y)) hx hy = absurd (omega arith)
odd_sum (suc (suc x)) y hx hy = absurd (omega arith)

module _ (x y : ℕ) (hx : x < 2 ^ 16) (hy : y < 2 ^ 16) where
  pub and_is : bit_and x y ≡ on_bits min x y
  and_is = bits bit_and min refl and_step 16 x y hx hy

  pub or_is : bit_or x y ≡ on_bits max x y
  or_is = bits bit_or max refl or_step 16 x y hx hy

  pub xor_is : bit_xor x y ≡ on_bits (λ j k. (j + k) % 2) x y
  xor_is =
      bits bit_xor (λ j k. (j + k) % 2) refl
      (λ a b. xor_step a b ∙ ap (λ (d : ℕ). bit_xor (a / 2) (b / 2) * 2 + d) (odd_sum (a % 2) (b % 2) (omega arith) (omega arith)))
      16 x y hx hy

  -- a product of two words fits 32 bits
  pub product_fits : x * y < 2 ^ 32
  product_fits =
      let ax : x ≤ 65535 = omega arith in
      let ay : y ≤ 65535 = omega arith in
      omega (arith, mul-le-mul ax ay)

-- the three conditions
pub equal_is : (x y : ℕ) → x ≡ y → 0 ≡ compared x y
equal_is x y e = rw (eq-eqb x y e)

pub less_is : (x y : ℕ) → x < y → 1 ≡ compared x y
less_is x y h = rw (ne_eqb x y (λ e. omega arith), lt-ltb x y h)

pub greater_is : (x y : ℕ) → x ≢ y → y ≤ x → 2 ≡ compared x y
greater_is x y ne h = rw (ne_eqb x y ne, le-ltb x y h)

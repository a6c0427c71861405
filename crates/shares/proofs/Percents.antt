-- Hundredths of a percent: they are the nearest whole number, and at most a whole. Assumes nothing.
use Prim.Native.Nat.{ℕ, ◌+◌, ◌*◌, ◌≤◌, ◌<◌}
use native.Mathlib.Nat.{div-mul-le_self, lt-div-mul-add, div-lt_iff_lt-mul}
use native.Mathlib.Omega.{arith}
use Rattle.shares.specs.Percent.{whole, percent}

-- it is at most half a hundredth above the quotient and less than half below it: the nearest, a half upwards
pub percent_near : (ticks all : ℕ) → 0 < all
    → (2 * all * percent ticks all ≤ 2 * whole * ticks + all) × (2 * whole * ticks < 2 * all * percent ticks all + all)
unfolding percent
percent_near ticks all h =
    let over = 2 * whole * ticks + all in
    (omega (arith, div-mul-le_self over (2 * all)), omega (arith, lt-div-mul-add {a = over} {b = 2 * all} (omega arith)))

-- no more ticks than all are no more than a whole
pub percent_most : (ticks all : ℕ) → 0 < all → ticks ≤ all → percent ticks all ≤ whole
unfolding percent
percent_most ticks all h p =
    let below = (div-lt_iff_lt-mul {k = 2 * all} {x = 2 * whole * ticks + all} {y = 1 + whole} (omega arith)).1 (omega arith) in
    omega arith

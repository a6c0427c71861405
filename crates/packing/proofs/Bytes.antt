-- The bytes of a number one by one. Assumes nothing.
use mathlib.Core.Path.{◌≡◌, refl, ap, ◌∙◌}
use mathlib.Core.List.{List, ◌∷◌, ◌++◌}
use Prim.Native.Nat.{ℕ, zero, suc, ◌+◌, ◌*◌, ◌-◌, ◌/◌, ◌%◌, ◌^◌, ◌<◌, ◌≤◌}
use native.Mathlib.Nat.{zero-add, div-one, div-div-eq-div-mul}
use native.Mathlib.Omega.{arith}
use lib.Pow.{shr-shr}
use lib.ListN.{length, take, drop}
use Rattle.paper.specs.Runner.{decimal, newline}
use Rattle.laws.specs.Decimal.{word_short}
use Rattle.std.specs.Int.{to_le_bytes}
use Rattle.std.proofs.Common.{w64}
use borrow.Rule.Slice.PartMut.{put_mid}
use Rattle.writes.specs.Written.{part_written}
use Rattle.packing.specs.Packed.{unpacked, five, Placed}
use Rattle.packing.specs.Placing.{unpacked_length, placed_first}
use Rattle.packing.proofs.Decimals.{last, all_digits, without}

-- the first bytes, and those after a shift
pub unpacked_first : (m n v : ℕ) → m ≤ n → take m (unpacked n v) ≡ unpacked m v
unfolding unpacked
unpacked_first zero n v h = refl
unpacked_first (suc m) zero v h = absurd (omega arith)
unpacked_first (suc m) (suc n) v h = ap (λ (l : List ℕ). v % 256 ∷ l) (unpacked_first m n (v / 256) (omega arith))

shifted : (d m v : ℕ) → unpacked m (v / 2 ^ (8 * d)) ≡ drop d (unpacked (d + m) v)
unfolding unpacked
shifted zero m v = rw (div-one, zero-add)
shifted (suc d) m v =
    let a : suc d + m ≡ suc (d + m) = omega arith in
    let b : 8 * suc d ≡ 8 + 8 * d = omega arith in
    rw (a, b, ← shr-shr v 8 (8 * d)) (shifted d m (v / 256))

-- a byte and a number above it
byte_then : (m d r : ℕ) → d < 256 → unpacked (suc m) (d + 256 * r) ≡ d ∷ unpacked m r
unfolding unpacked
byte_then m d r h =
    let a : (d + 256 * r) % 256 ≡ d = omega arith in
    let b : (d + 256 * r) / 256 ≡ r = omega arith in
    rw (a, b)

-- five digits and the end of a line as bytes
line_end : unpacked 1 10 ≡ newline
unfolding unpacked
line_end = refl

five_bytes : (n : ℕ) → n < 65536 → unpacked 6 (five n) ≡ last 5 n ++ newline
unfolding five
five_bytes n h =
    let a : n / 10 / 10 / 10 / 10 % 10 ≡ n / 10000 = omega arith in
    let b : n / 10 / 10 / 10 ≡ n / 1000 = omega arith in
    let c : n / 10 / 10 ≡ n / 100 = omega arith in
    rw (
      a,
      b,
      c,
      byte_then 5 (48 + n / 10000) _ (omega arith),
      byte_then 4 (48 + n / 1000 % 10) _ (omega arith),
      byte_then 3 (48 + n / 100 % 10) _ (omega arith),
      byte_then 2 (48 + n / 10 % 10) _ (omega arith),
      byte_then 1 (48 + n % 10) 10 (omega arith),
      line_end,
    )

-- what is left after the shift is the digits and the end of the line
pub number_bytes : (n c v : ℕ) → n < 65536 → c ≡ length (decimal n) → v ≡ five n
    → unpacked (c + 1) (v / 2 ^ (8 * (5 - c))) ≡ decimal n ++ newline
number_bytes n c v h e ev =
    let s : c ≤ 5 = word_short n c h e in
    let d : (5 - c) + (c + 1) ≡ 6 = omega arith in
    shifted (5 - c) (c + 1) v ∙ rw (d, ev, five_bytes n h, without c n s, e, all_digits 4 n (omega arith))

-- eight bytes as the number tells them, and the first of them
pub all_unpacked : (v : ℕ) → to_le_bytes w64 v ≡ unpacked 8 v
unfolding unpacked
all_unpacked v = simp div-div-eq-div-mul

pub some_unpacked : (m v : ℕ) → m ≤ 8 → take m (to_le_bytes w64 v) ≡ unpacked m v
some_unpacked m v h = rw (all_unpacked v) (unpacked_first m 8 v h)

-- the first bytes of those copied, as they are placed
pub copied_placed : (o us : List ℕ) (at end b m v k : ℕ) → us ≡ unpacked m v → k ≡ m → b ≤ m → at + m ≤ end → end ≤ length o
    → Placed o at (unpacked b v) end (put_mid at k o us)
copied_placed o us at end b m v k e ek h g l =
    let w : length (unpacked m v) ≡ m = unpacked_length m v in
    rw (← unpacked_first b m v h)
    (placed_first o _ at (unpacked m v) end b (part_written o us (unpacked m v) at k e (omega arith) (omega arith)) (omega arith) (omega arith) l)

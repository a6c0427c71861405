-- How many bytes a word gives to the text, as they are counted. Assumes nothing.
use mathlib.Core.Path.{◌≡◌, refl, sym, ap, ◌∙◌}
use mathlib.Core.Logic.{◌≢◌, ⊎_elim}
use mathlib.Core.List.{◌++◌}
use Rattle.std.specs.Int.{from_bool}
use Rattle.std.proofs.Common.{not, eqb, ne_eqb}
use Prim.Native.Nat.{ℕ, zero, suc, ◌+◌, ◌-◌, ◌*◌, ◌≤◌}
use native.Mathlib.Omega.{arith}
use lib.ListN.{length, length-append}
use Rattle.paper.specs.Runner.{decimal, newline}
use Rattle.packing.specs.Placing.{unpacked_length}
use Rattle.rows.specs.Rows.{row_of, front, tail}
use Rattle.spelling.specs.Pieces.{tail_at}
use Rattle.spelling.specs.Spelt.{piece_in_parts}
use Rattle.printing.specs.Pieces.{piece, most_piece, RowFor, is_order}

-- a number that is 0 or 1, times another
pub flag_times : (a b : ℕ) → a ≤ 1 → a * b ≤ b
flag_times zero b h = omega arith
flag_times (suc zero) b h = omega arith
flag_times (suc (suc a)) b h = absurd (omega arith)

pub order_flag : (row : ℕ) → is_order row ≤ 1
unfolding is_order
order_flag zero = omega arith
order_flag (suc r) = omega arith

-- the test of a row as a number
pub order_tested : (row : ℕ) → from_bool (not (eqb row 0)) ≡ is_order row
unfolding is_order
order_tested zero = refl
order_tested (suc r) = rw (ne_eqb (suc r) 0 (omega arith))

pub number_long : (w : ℕ) → length (piece 0 w) ≡ length (decimal w) + 1
unfolding piece
number_long w = length-append (decimal w) newline

-- front and tail of an order's row
pub order_in_parts : (row w : ℕ) → row ≢ 0 → RowFor row w → piece row w ≡ front row ++ tail_at w
unfolding piece
order_in_parts zero w ne f = absurd (ne refl)
order_in_parts (suc r) w ne f = ⊎_elim (λ z. absurd (ne z)) (λ e. sym (piece_in_parts w (λ z. ne (e ∙ z))) ∙ ap (λ q. front q ++ tail_at w) (sym e)) f

tail_long : (row w : ℕ) → row ≡ row_of w → length (tail_at w) ≡ length (tail row)
unfolding tail_at
tail_long row w e = unpacked_length (length (tail (row_of w))) _ ∙ ap (λ q. length (tail q)) (sym e)

pub order_long : (row w : ℕ) → row ≢ 0 → RowFor row w → length (piece row w) ≡ length (front row) + length (tail row)
order_long row w ne f =
    ⊎_elim (λ z. absurd (ne z))
    (λ e. ap length (order_in_parts row w ne f) ∙ length-append (front row) (tail_at w) ∙ ap (λ n. length (front row) + n) (tail_long row w e))
    f

-- whether a word is counted by its row, as a number: where a line starts and the row is an order's
pub by_row_flag : (row starts o : ℕ) → starts ≤ 1 → o ≡ is_order row → starts * o ≤ 1
by_row_flag row starts o h e =
    let f : o ≤ 1 = rw e (order_flag row) in
    omega (arith, flag_times starts o h)

-- the count of a piece: by its row or by its digits
module _ (row starts w o b d : ℕ) (h : starts ≤ 1) (f : RowFor row w) (eo : o ≡ is_order row) (eb : b ≡ length (front row) + length (tail row)) (ed : d ≡ length (decimal w)) where
  pub counted : starts * o * b + (1 - starts * o) * (d + 1) ≡ length (piece (row * starts) w)
  unfolding is_order
  counted = rw eo (go starts row h f eb)
    where
      go : (s r : ℕ) → s ≤ 1 → RowFor r w → b ≡ length (front r) + length (tail r)
          → s * is_order r * b + (1 - s * is_order r) * (d + 1) ≡ length (piece (r * s) w)
      go zero r h f eb =
          let z : r * 0 ≡ 0 = omega arith in
          let p : 0 * is_order r ≡ 0 = omega arith in
          rw (z, p, number_long w) (omega (arith, ed))
      go (suc zero) zero h f eb = rw (number_long w) (omega (arith, ed))
      go (suc zero) (suc r) h f eb =
          let n : suc r * 1 ≡ suc r = omega arith in
          let ne : suc r ≢ 0 = λ z. omega arith in
          rw (n, order_long (suc r) w ne f) (omega (arith, eb))
      go (suc (suc s)) r h f eb = absurd (omega arith)

-- and how large it may be
pub counts_few : (x b d : ℕ) → x ≤ 1 → b ≤ 30 → d ≤ 5 → x * b + (1 - x) * (d + 1) ≤ most_piece
counts_few x b d h hb hd = omega (arith, flag_times x b h, flag_times (1 - x) (d + 1) (omega arith))

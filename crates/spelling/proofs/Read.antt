-- What is read from the rows. Assumes nothing.
use Rattle.std.proofs.Common.{◌≡◌, ℕ, ◌+◌, ◌*◌, ◌/◌, ◌%◌, ◌^◌, ◌<◌, ◌≤◌, length, sym, ap, ◌∙◌, lt-ltb, le-ltb}
use Rattle.paper.specs.Orders.{a_of, b_of}
use Rattle.packing.specs.Packed.{unpacked}
use Rattle.rows.specs.Rows.{rows_end, row_of, front, tail, second, end_b, Tells}
use Rattle.rows.specs.declared.tables.Parts.{Parts}
use Rattle.spelling.specs.Pieces.{tail_value, tail_at, sixteenth_of}
use Rattle.spelling.specs.Spelt.{row_few, looked, row_looked, form_front, form_tail, form_second, form_end, front_short, tail_short, front_unpacked, registers_fit, tail_fits}

-- the numbers of a form
module _ (r : ℕ) (p : Parts) (t : Tells r p) (h : r < rows_end) where
  pub front_read : p.form_word % 16 ≡ length (front r)
  front_read = rw t.form_told (form_front r h)

  pub tail_read : p.form_word % 256 / 16 ≡ length (tail r)
  tail_read = rw t.form_told (form_tail r h)

  pub second_read : p.form_word % 512 / 256 ≡ second r
  second_read = rw t.form_told (form_second r h)

  pub end_read : p.form_word / 512 ≡ end_b r
  end_read = rw t.form_told (form_end r h)

  pub front_few : p.form_word % 16 ≤ 8
  front_few = rw front_read (front_short r h)

  pub tail_few : p.form_word % 256 / 16 ≤ 8
  tail_few = rw tail_read (tail_short r h)

  pub bytes_read : p.form_word % 16 + p.form_word % 256 / 16 ≡ length (front r) + length (tail r)
  bytes_read = rw (front_read, tail_read)

  -- the front of a row
  pub front_made : unpacked (p.form_word % 16) p.front_bytes ≡ front r
  front_made = rw (front_read, t.front_told) (front_unpacked r h)

-- the row of a word: its sixteenth's, where its field b is in range
module _ (w k q : ℕ) (e : k ≡ sixteenth_of w) (f : q ≡ row_of (16 * k)) where
  pub row_read : q < rows_end
  row_read = rw f (row_few (16 * k))

  is_looked : row_of w ≡ looked q (b_of w)
  is_looked = row_looked w ∙ ap (λ j. looked (row_of (16 * j)) (b_of w)) (sym e) ∙ ap (λ r. looked r (b_of w)) (sym f)

  module _ (p : Parts) (t : Tells q p) where
    pub row_taken : b_of w < p.form_word / 512 → q ≡ row_of w
    row_taken l = sym (is_looked ∙ rw (lt-ltb (b_of w) (end_b q) (rw (end_read q p t row_read) at l), looked))

    pub row_none : p.form_word / 512 ≤ b_of w → 0 ≡ row_of w
    row_none l = sym (is_looked ∙ rw (le-ltb (b_of w) (end_b q) (rw (end_read q p t row_read) at l), looked))

-- the tail of a word's row
pub row_is_few : (w r : ℕ) → r ≡ row_of w → r < rows_end
row_is_few w r e = rw e (row_few w)

module _ (w r : ℕ) (e : r ≡ row_of w) (p : Parts) (t : Tells r p) where
  pub registers_small : (a_of w + 16777216 * b_of w) * p.first_register < 2 ^ 64
  registers_small = rw (t.place_told, e) (registers_fit w)

  is_value : p.tail_bytes + (a_of w + 16777216 * b_of w) * p.first_register ≡ tail_value (row_of w) w
  is_value = rw (t.tail_told, t.place_told, e)

  pub tail_small : p.tail_bytes + (a_of w + 16777216 * b_of w) * p.first_register < 2 ^ 64
  tail_small = rw is_value (tail_fits w)

  pub tail_made : unpacked (p.form_word % 256 / 16) (p.tail_bytes + (a_of w + 16777216 * b_of w) * p.first_register) ≡ tail_at w
  unfolding tail_at
  tail_made = rw (is_value, tail_read r p t (row_is_few w r e), e)

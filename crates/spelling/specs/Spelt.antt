-- What the rows say of words, by tests that antt computes over the words that orders begin with and over the rows. Assumes nothing.
use Rattle.std.specs.Prelude.{◌≡◌, refl, Bool, true, false, not, ◌||◌, ◌≢◌, List, ◌++◌, ℕ, ◌+◌, ◌*◌, ◌/◌, ◌%◌, ◌^◌, ◌<◌, ◌≤◌, eqb, leb, ltb, length}
use Rattle.std.proofs.Common.{sym, ap, ◌∙◌, true≢false, arith, eqb-true, eq-eqb, ne_eqb, ltb-true, lt-ltb, leb-true}
use Rattle.std.proofs.Math.Bool.{So}
use Rattle.paper.specs.Orders.{a_of, b_of}
use Rattle.paper.specs.Runner.{decimal}
use Rattle.grammar.specs.Tokens.{bytes, same}
use Rattle.grammar.specs.Kept.{kept_words}
use Rattle.grammar.specs.Printing.{named_in, named_as, Spelling, spelling}
use Rattle.order_table.specs.Reading.{all_below, all_below_at}
use Rattle.print_laws.specs.Sweep.{end_of_orders}
use Rattle.print_laws.proofs.Sweep.{swept}
use Rattle.text_laws.specs.Words.{same_is}
use Rattle.packing.specs.Packed.{unpacked}
use Rattle.rows.specs.Rows.{rows_end, row_from, row_named, row_of, row_at, front, tail, second, end_b, place, packed, form}
use Rattle.spelling.specs.Pieces.{tail_value, tail_at, sixteenth_of, piece_by, order_piece}

-- there are 24 rows
pub row_few : (w : ℕ) → row_of w < rows_end
unfolding row_of row_from bytes same kept_words named_in named_as
row_few w = ltb-true _ _ (swept (λ v n. ltb (row_named n) rows_end) refl (λ v l. refl) w)

-- the row of a word is that of the first word of its sixteenth, where its field b is in range
abbrev pub looked : ℕ → ℕ → ℕ
looked r b = elim (ltb b (end_b r)) [ true ↦ r | false ↦ 0 ]

looked_none : row_of end_of_orders ≡ 0
unfolding row_of row_from bytes same kept_words named_in named_as
looked_none = refl

looked_zero : (b : ℕ) → looked 0 b ≡ 0
looked_zero b = either (ltb b (end_b 0))
  where
    either : (t : Bool) → ◌≡◌ {A = ℕ} (elim t [ true ↦ 0 | false ↦ 0 ]) 0
    either true = refl
    either false = refl

looked_past : (v : ℕ) → end_of_orders ≤ v → looked (row_of (16 * sixteenth_of v)) (b_of v) ≡ 0
looked_past v l =
    let e : 16 * sixteenth_of v ≡ end_of_orders = omega arith in
    ap (λ r. looked r (b_of v)) (ap row_of e ∙ looked_none) ∙ looked_zero (b_of v)

pub row_looked : (w : ℕ) → row_of w ≡ looked (row_of (16 * sixteenth_of w)) (b_of w)
unfolding row_of row_from row_at end_b bytes same kept_words named_in named_as
row_looked w =
    eqb-true _ _ (swept (λ v n. eqb (row_named n) (looked (row_of (16 * sixteenth_of v)) (b_of v))) refl (λ v l. eq-eqb _ _ (sym (looked_past v l))) w)

-- a test at each row
by_row : (f : ℕ → Bool) → So (all_below rows_end f) → (r : ℕ) → r < rows_end → f r ≡ true
by_row f t r h = all_below_at rows_end f t r h

-- a form tells its four numbers
pub form_front : (r : ℕ) → r < rows_end → form r % 16 ≡ length (front r)
unfolding row_at front tail second end_b bytes kept_words
form_front r h = eqb-true _ _ (by_row (λ k. eqb (form k % 16) (length (front k))) refl r h)

pub form_tail : (r : ℕ) → r < rows_end → form r % 256 / 16 ≡ length (tail r)
unfolding row_at front tail second end_b bytes kept_words
form_tail r h = eqb-true _ _ (by_row (λ k. eqb (form k % 256 / 16) (length (tail k))) refl r h)

pub form_second : (r : ℕ) → r < rows_end → form r % 512 / 256 ≡ second r
unfolding row_at front tail second end_b bytes kept_words
form_second r h = eqb-true _ _ (by_row (λ k. eqb (form k % 512 / 256) (second k)) refl r h)

pub form_end : (r : ℕ) → r < rows_end → form r / 512 ≡ end_b r
unfolding row_at front tail second end_b bytes kept_words
form_end r h = eqb-true _ _ (by_row (λ k. eqb (form k / 512) (end_b k)) refl r h)

-- front and tail have at most eight bytes each, and the front is what its number says
pub front_short : (r : ℕ) → r < rows_end → length (front r) ≤ 8
unfolding row_at front bytes kept_words
front_short r h = leb-true _ _ (by_row (λ k. leb (length (front k)) 8) refl r h)

pub tail_short : (r : ℕ) → r < rows_end → length (tail r) ≤ 8
unfolding row_at tail bytes kept_words
tail_short r h = leb-true _ _ (by_row (λ k. leb (length (tail k)) 8) refl r h)

pub front_unpacked : (r : ℕ) → r < rows_end → unpacked (length (front r)) (packed (front r)) ≡ front r
unfolding row_at front packed unpacked bytes same kept_words
front_unpacked r h = same_is _ _ (by_row (λ k. same (unpacked (length (front k)) (packed (front k))) (front k)) refl r h)

-- with the registers of a word the tail is a number of eight bytes
pub registers_fit : (w : ℕ) → (a_of w + 16777216 * b_of w) * place (row_of w) < 2 ^ 64
unfolding row_of row_from row_at place bytes same kept_words named_in named_as
registers_fit w = ltb-true _ _ (swept (λ v n. ltb ((a_of v + 16777216 * b_of v) * place (row_named n)) (2 ^ 64)) refl none_fit w)
  where
    none_fit : (v : ℕ) → end_of_orders ≤ v → ltb ((a_of v + 16777216 * b_of v) * 0) (2 ^ 64) ≡ true
    none_fit v l = lt-ltb ((a_of v + 16777216 * b_of v) * 0) (2 ^ 64) (omega arith)

pub tail_fits : (w : ℕ) → tail_value (row_of w) w < 2 ^ 64
unfolding row_of row_from row_at place tail packed bytes same kept_words named_in named_as
tail_fits w = ltb-true _ _ (swept (λ v n. ltb (tail_value (row_named n) v) (2 ^ 64)) refl none_fit w)
  where
    none_fit : (v : ℕ) → end_of_orders ≤ v → ltb (0 + (a_of v + 16777216 * b_of v) * 0) (2 ^ 64) ≡ true
    none_fit v l = lt-ltb (0 + (a_of v + 16777216 * b_of v) * 0) (2 ^ 64) (omega arith)

-- what a word with a row gives to a text: front and tail of its row
abbrev tail_with : ℕ → ℕ → List ℕ
tail_with r w = unpacked (length (tail r)) (tail_value r w)

pub piece_in_parts : (w : ℕ) → row_of w ≢ 0 → front (row_of w) ++ tail_at w ≡ order_piece w
unfolding row_of row_from row_at front tail place packed unpacked tail_at order_piece decimal bytes same kept_words named_in named_as
piece_in_parts w ne = same_is _ _ (rw (ne_eqb _ 0 ne) at (swept (λ v n. eqb (row_named n) 0 || same (front (row_named n) ++ tail_with (row_named n) v) (piece_by (spelling n v) v)) refl (λ v l. refl) w))

-- a word of row 0 is spelt as a number
abbrev is_plain : Spelling → Bool
is_plain Spelling.plain = true
is_plain (Spelling.one l) = false
is_plain (Spelling.two l) = false

plain_is : (s : Spelling) → is_plain s ≡ true → s ≡ Spelling.plain
plain_is Spelling.plain e = refl
plain_is (Spelling.one l) e = absurd (true≢false (sym e))
plain_is (Spelling.two l) e = absurd (true≢false (sym e))

pub plain_spelt : (w : ℕ) → row_of w ≡ 0 → spelling (named_as w) w ≡ Spelling.plain
unfolding row_of row_from bytes same kept_words named_in named_as
plain_spelt w e = plain_is _ (rw (eq-eqb _ 0 e) at (swept (λ v n. not (eqb (row_named n) 0) || is_plain (spelling n v)) refl (λ v l. refl) w))

-- a second word follows where the spelling says so
abbrev pub followed : Spelling → ℕ
followed Spelling.plain = 0
followed (Spelling.one l) = 0
followed (Spelling.two l) = 1

pub second_spelt : (w : ℕ) → second (row_of w) ≡ followed (spelling (named_as w) w)
unfolding row_of row_from row_at second bytes same kept_words named_in named_as
second_spelt w = eqb-true _ _ (swept (λ v n. eqb (second (row_named n)) (followed (spelling n v))) refl (λ v l. refl) w)

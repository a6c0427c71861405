-- The text of a list is the piece of its first word and the text of the rest. Assumes nothing.
use mathlib.Core.Path.{◌≡◌, refl, sym, ap, ◌∙◌}
use mathlib.Core.List.{List, [], ◌∷◌, ◌++◌, append_assoc, append-nil}
use Prim.Native.Nat.{ℕ, zero, suc, ◌-◌, ◌*◌, ◌≤◌}
use native.Mathlib.Omega.{arith}
use Rattle.paper.specs.Runner.{decimal, space, newline}
use Rattle.grammar.specs.Tokens.{bytes}
use Rattle.grammar.specs.Kept.{kept_words}
use Rattle.grammar.specs.Printing.{named_as, Spelling, spelling, number_text, line_alone, printed}
use Rattle.print_laws.specs.Back.{whole_of}
use Rattle.rows.specs.Rows.{row_of, row_at, second}
use Rattle.spelling.specs.Pieces.{number_piece, piece_by, order_piece}
use Rattle.spelling.specs.Spelt.{plain_spelt, followed, second_spelt}
use Rattle.printing.specs.Pieces.{piece, row_alone, row_first, text_from}

no_second : second 0 ≡ 0
unfolding second row_at bytes kept_words
no_second = refl

-- a word's own row gives what its spelling says
own_piece : (w : ℕ) → piece (row_of w) w ≡ piece_by (spelling (named_as w) w) w
unfolding piece order_piece
own_piece w = by_row (row_of w) refl
  where
    by_row : (r : ℕ) → row_of w ≡ r → piece r w ≡ piece_by (spelling (named_as w) w) w
    by_row zero e = rw (plain_spelt w e)
    by_row (suc r) e = refl

alone_one : (r : ℕ) → second r ≡ 0 → row_alone r ≡ r
alone_one r e = rw (e, row_alone)

alone_two : (r : ℕ) → second r ≡ 1 → row_alone r ≡ 0
alone_two r e = rw (e, row_alone)

-- the last word, where a line starts at it
last_line : (w : ℕ) (x : Spelling) (r : ℕ) → second r ≡ followed x → piece r w ≡ piece_by x w
    → line_alone x w ++ newline ≡ piece (row_alone r) w ++ text_from (1 - second (row_alone r)) []
unfolding text_from printed piece
last_line w Spelling.plain r e p = rw (alone_one r e, e, p) (sym (append-nil _))
last_line w (Spelling.one l) r e p = rw (alone_one r e, e, p) (sym (append-nil _))
last_line w (Spelling.two l) r e p = rw (alone_two r e, no_second) (sym (append-nil _))

-- a word with another after it
next_line : (w n : ℕ) (ws : List ℕ) (x : Spelling) (r : ℕ) → second r ≡ followed x → piece r w ≡ piece_by x w
    → whole_of x w n (printed (n ∷ ws)) (printed ws) ≡ piece r w ++ text_from (1 - second r) (n ∷ ws)
unfolding text_from
next_line w n ws Spelling.plain r e p = rw (e, p) (sym (append_assoc (decimal w) newline (printed (n ∷ ws))))
next_line w n ws (Spelling.one l) r e p = rw (e, p) (sym (append_assoc l newline (printed (n ∷ ws))))
next_line w n ws (Spelling.two l) r e p =
    rw (e, p)
    (append_assoc l (number_text n) (newline ++ printed ws)
    ∙ ap (λ x. l ++ (space ++ x)) (sym (append_assoc (decimal n) newline (printed ws)))
    ∙ sym (append_assoc l space (number_piece n ++ printed ws)))

starting : (w : ℕ) (ws : List ℕ) → printed (w ∷ ws) ≡ piece (row_first (w ∷ ws)) w ++ text_from (1 - second (row_first (w ∷ ws))) ws
unfolding printed row_first
starting w [] = last_line w (spelling (named_as w) w) (row_of w) (second_spelt w) (own_piece w)
starting w (n ∷ ws) = next_line w n ws (spelling (named_as w) w) (row_of w) (second_spelt w) (own_piece w)

-- the piece of the first word, and the text of the rest: of a second word, and where a line starts
pub first_piece : (starts w : ℕ) (ws : List ℕ) → starts ≤ 1
    → text_from starts (w ∷ ws) ≡ piece (row_first (w ∷ ws) * starts) w ++ text_from (1 - starts * second (row_first (w ∷ ws))) ws
unfolding text_from piece
first_piece zero w ws h =
    let r : row_first (w ∷ ws) * 0 ≡ 0 = omega arith in
    let t : 1 - 0 * second (row_first (w ∷ ws)) ≡ 1 = omega arith in
    rw (r, t)
first_piece (suc zero) w ws h =
    let r : row_first (w ∷ ws) * 1 ≡ row_first (w ∷ ws) = omega arith in
    let t : 1 * second (row_first (w ∷ ws)) ≡ second (row_first (w ∷ ws)) = omega arith in
    rw (r, t) (starting w ws)
first_piece (suc (suc k)) w ws h = absurd (omega arith)

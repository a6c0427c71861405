-- The text of a list of words, one piece for each word.
use Rattle.std.specs.Prelude.{◌≡◌, true, false, ◌⊎◌, List, [], ◌∷◌, ◌++◌, ℕ, zero, suc, eqb, length, drop}
use Rattle.grammar.specs.Printing.{printed}
use Rattle.rows.specs.Rows.{row_of, second}
use Rattle.spelling.specs.Pieces.{number_piece, order_piece}

-- what a word gives to the text, by its row
unfoldable pub piece : ℕ → ℕ → List ℕ
piece zero w = number_piece w
piece (suc r) w = order_piece w

-- the most bytes that are counted for a word
abbrev pub most_piece : ℕ
most_piece = 36

-- a row that a word is written by: its own, or that of a number
abbrev pub RowFor : ℕ → ℕ → Type 0
RowFor r w = (r ≡ 0) ⊎ (r ≡ row_of w)

-- 1 for the row of an order, and 0 for that of a number
unfoldable pub is_order : ℕ → ℕ
is_order zero = 0
is_order (suc r) = 1

-- the row of a list's first word, where a line starts at it: an order whose second word is missing is a number
abbrev pub row_alone : ℕ → ℕ
row_alone r = elim (eqb (second r) 1) [ true ↦ 0 | false ↦ r ]

unfoldable pub row_first : List ℕ → ℕ
row_first [] = 0
row_first (w ∷ []) = row_alone (row_of w)
row_first (w ∷ n ∷ ws) = row_of w

-- the text of a list: 1 where a line starts at its first word, 0 where that is a second word
unfoldable pub text_from : ℕ → List ℕ → List ℕ
text_from zero [] = []
text_from zero (n ∷ ws) = number_piece n ++ printed ws
text_from (suc k) ws = printed ws

-- a buffer with the text of a list at its start, and the bytes past it as they were
abbrev pub Inscribed : List ℕ → List ℕ → List ℕ → Type 0
Inscribed ws o out = out ≡ printed ws ++ drop (length (printed ws)) o

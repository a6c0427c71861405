-- A word by its row: the tail with its registers, and what it gives to a text.
use Rattle.std.specs.Prelude.{List, ◌++◌, ℕ, ◌+◌, ◌*◌, ◌/◌, min, length}
use Rattle.paper.specs.Orders.{a_of, b_of}
use Rattle.paper.specs.Runner.{decimal, space, newline}
use Rattle.grammar.specs.Printing.{named_as, Spelling, spelling}
use Rattle.packing.specs.Packed.{unpacked}
use Rattle.rows.specs.Rows.{sixteenths, row_of, tail, place, packed}

-- the tail of a word's row with the word's registers: the second stands three bytes after the first
abbrev pub tail_value : ℕ → ℕ → ℕ
tail_value r w = packed (tail r) + (a_of w + 16777216 * b_of w) * place r

unfoldable pub tail_at : ℕ → List ℕ
tail_at w = unpacked (length (tail (row_of w))) (tail_value (row_of w) w)

-- the sixteenth of the words that a word lies in; all past the orders are one
abbrev pub sixteenth_of : ℕ → ℕ
sixteenth_of w = min (w / 16) sixteenths

-- what a word gives to a text: as a number, and where it begins a line, which is an order up to its second word or a number
abbrev pub number_piece : ℕ → List ℕ
number_piece w = decimal w ++ newline

abbrev pub piece_by : Spelling → ℕ → List ℕ
piece_by Spelling.plain w = number_piece w
piece_by (Spelling.one l) w = l ++ newline
piece_by (Spelling.two l) w = l ++ space

unfoldable pub order_piece : ℕ → List ℕ
order_piece w = piece_by (spelling (named_as w) w) w

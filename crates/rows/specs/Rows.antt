-- Rows: row 0 is that of a number, the orders have the rows from 1 on as they stand in the table of kept words. What stands in each row, and the rules of the tables.
use Rattle.std.specs.Prelude.{◌≡◌, true, false, List, [], ◌∷◌, ◌++◌, ℕ, suc, ◌+◌, ◌*◌, ◌^◌, length, get_or, take, drop}
use Rattle.paper.specs.Runner.{space, newline}
use Rattle.grammar.specs.Tokens.{bytes, same}
use Rattle.grammar.specs.Kept.{Row, row, kept_words}
use Rattle.grammar.specs.Printing.{Named, named_as}
use Rattle.grammar.specs.declared.Kept.{Kept}
use Rattle.grammar.specs.declared.Operands.{Operands}
use Rattle.rows.specs.declared.tables.Parts.{Parts}

-- the rows, and the sixteenths of the words before the end of the orders
abbrev pub rows_end : ℕ
rows_end = 24

abbrev pub sixteenths : ℕ
sixteenths = 16 * 19

-- the table of kept words has the registers first
abbrev order_rows : List Row
order_rows = drop 8 kept_words

-- the row of an order, by its name
unfoldable pub row_from : ℕ → List Row → List ℕ → ℕ
row_from k [] name = 0
row_from k (r ∷ rs) name = elim (same r.spelt name) [ true ↦ k | false ↦ row_from (suc k) rs name ]

abbrev pub row_named : Named → ℕ
row_named Named.none = 0
row_named (Named.order name o) = row_from 1 order_rows name

unfoldable pub row_of : ℕ → ℕ
row_of w = row_named (named_as w)

-- what stands in a row
unfoldable pub row_at : ℕ → Row
row_at r = get_or (row "" Kept.Free ∷ order_rows) r (row "" Kept.Free)

-- what is said of a row: of an order by its operands, and of a number one thing
abbrev by_operands : {A : Type 0} → A → (Operands → A) → Kept → A
by_operands x f Kept.Free = x
by_operands x f (Kept.Register a) = x
by_operands x f (Kept.Order o w) = f o
by_operands x f Kept.Later = x

-- a line in two parts: the name up to its eighth letter, and the rest up to a second word or the end of the line, where both registers are 0
abbrev operands_text : Operands → List ℕ
operands_text Operands.Nothing = newline
operands_text Operands.Sum = space
operands_text Operands.RegisterSum = bytes " r0 "
operands_text Operands.Registers = bytes " r0 r0\n"

unfoldable pub front : ℕ → List ℕ
front r = take 8 (row_at r).spelt

unfoldable pub tail : ℕ → List ℕ
tail r = drop 8 (row_at r).spelt ++ by_operands [] operands_text (row_at r).kept

-- 1 where a second word follows, else 0
abbrev second_by : Operands → ℕ
second_by Operands.Nothing = 0
second_by Operands.Sum = 1
second_by Operands.RegisterSum = 1
second_by Operands.Registers = 0

unfoldable pub second : ℕ → ℕ
second r = by_operands 0 second_by (row_at r).kept

-- where the field b of an order ends
abbrev end_by : Operands → ℕ
end_by Operands.Nothing = 1
end_by Operands.Sum = 1
end_by Operands.RegisterSum = 1
end_by Operands.Registers = 8

unfoldable pub end_b : ℕ → ℕ
end_b r = by_operands 0 end_by (row_at r).kept

-- what the first register counts in a tail: it is the third byte, or a later one where letters of the name stand before it; 0 where there is none
abbrev place_by : ℕ → Operands → ℕ
place_by n Operands.Nothing = 0
place_by n Operands.Sum = 0
place_by n Operands.RegisterSum = 256 ^ (2 + n)
place_by n Operands.Registers = 256 ^ (2 + n)

unfoldable pub place : ℕ → ℕ
place r = by_operands 0 (place_by (length (drop 8 (row_at r).spelt))) (row_at r).kept

-- bytes as one number, the first lowest
unfoldable pub packed : List ℕ → ℕ
packed [] = 0
packed (b ∷ bs) = b + 256 * packed bs

-- a row's form
abbrev pub form : ℕ → ℕ
form r = length (front r) + 16 * length (tail r) + 256 * second r + 512 * end_b r

-- what the parts of a row tell of it
pub record Tells (r : ℕ) (p : Parts) : Type 0 where
  pub form_told : p.form_word ≡ form r
  pub front_told : p.front_bytes ≡ packed (front r)
  pub tail_told : p.tail_bytes ≡ packed (tail r)
  pub place_told : p.first_register ≡ place r

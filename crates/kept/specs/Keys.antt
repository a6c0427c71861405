-- A word as a number, and what a word is by that number.
use Rattle.std.specs.Prelude.{Bool, true, false, ◌&&◌, List, [], ◌∷◌, ℕ, ◌+◌, ◌-◌, ◌*◌, eqb, leb, length, get_or, drop}
use Rattle.grammar.specs.Tokens.{letter}
use Rattle.grammar.specs.Kept.{Row, kept_words}
use Rattle.grammar.specs.declared.Kept.{Kept}

-- the most letters of an order name
abbrev pub most_letters : ℕ
most_letters = 13

-- a letter counts from 1 for a; any other byte counts 27
unfoldable pub counted : ℕ → ℕ
counted b = elim (letter b) [ true ↦ b - 96 | false ↦ 27 ]

-- what the numbers of words are written to
abbrev pub base : ℕ
base = 28

-- a word as a number to the base, its first byte lowest
unfoldable pub key : List ℕ → ℕ
key [] = 0
key (b ∷ w) = key w * base + counted b

-- the row whose word has a number
unfoldable pub kept_under : List Row → ℕ → Kept
kept_under [] n = Kept.Free
kept_under (r ∷ rs) n = elim (eqb (key r.spelt) n) [ true ↦ r.kept | false ↦ kept_under rs n ]

-- the registers are the first rows of the table, and the order names those after them
abbrev pub registers : ℕ
registers = 8

unfoldable pub kept_by : ℕ → Kept
kept_by n = kept_under (drop registers kept_words) n

-- a register's word: its letter, and a digit from the first to the last
abbrev pub register_letter : ℕ
register_letter = 114

abbrev pub first_register : ℕ
first_register = 48

abbrev pub last_register : ℕ
last_register = 55

-- whether a word names a register
unfoldable pub names_register : List ℕ → Bool
names_register w =
    eqb (length w) 2 && (eqb (get_or w 0 0) register_letter && (leb first_register (get_or w 1 0) && leb (get_or w 1 0) last_register))

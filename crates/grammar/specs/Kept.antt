-- Kept words: the registers, and the order names of all editions. What is not kept is free to be a name.
use Rattle.std.specs.Prelude.{true, false, List, [], ◌∷◌, ℕ, ◌+◌, ◌*◌}
use Prim.Native.String.{String}
use Rattle.grammar.specs.Tokens.{bytes, same}
use Rattle.grammar.specs.declared.Operands.{Operands}
use Rattle.grammar.specs.declared.Kept.{Kept}

-- a row of the table of kept words
pub record Row : Type 0 where
  pub spelt : List ℕ
  pub kept : Kept

abbrev pub row : String → Kept → Row
row name k = record { spelt = bytes name; kept = k }

-- a register, with its number
abbrev pub register : String → ℕ → Row
register name a = row name (Kept.Register a)

-- an order: its operands, and its first word where both registers are 0
abbrev pub order : String → Operands → ℕ → Row
order name o w = row name (Kept.Order o w)

-- an order of a later edition
abbrev pub later : String → Row
later name = row name Kept.Later

-- the table of the page, and the registers
unfoldable pub kept_words : List Row
kept_words =
    register "r0" 0 ∷ register "r1" 1 ∷ register "r2" 2 ∷ register "r3" 3 ∷ register "r4" 4 ∷ register "r5" 5 ∷ register "r6" 6 ∷ register "r7" 7 ∷
    order "load" Operands.RegisterSum 256 ∷
    order "copy" Operands.Registers (256 * 2) ∷
    order "fetch" Operands.Registers (256 * 3) ∷
    order "store" Operands.Registers (256 * 4) ∷
    order "add" Operands.Registers (256 * 5) ∷
    order "subtract" Operands.Registers (256 * 6) ∷
    order "multiply" Operands.Registers (256 * 7) ∷
    order "quotient" Operands.Registers (256 * 8) ∷
    order "remainder" Operands.Registers (256 * 9) ∷
    order "and" Operands.Registers (256 * 10) ∷
    order "or" Operands.Registers (256 * 11) ∷
    order "xor" Operands.Registers (256 * 12) ∷
    order "compare" Operands.Registers (256 * 13) ∷
    order "jump" Operands.Sum 3584 ∷
    order "jumpeq" Operands.Sum 3840 ∷
    order "jumplt" Operands.Sum (3840 + 16 * 1) ∷
    order "jumpgt" Operands.Sum (3840 + 16 * 2) ∷
    order "call" Operands.Sum 4096 ∷
    order "return" Operands.Nothing 4352 ∷
    order "send" Operands.Nothing (4608 + 16 * 1) ∷
    order "receive" Operands.Nothing (4608 + 16 * 2) ∷
    order "input" Operands.Nothing (4608 + 16 * 3) ∷
    order "output" Operands.Nothing (4608 + 16 * 4) ∷
    later "finish" ∷ later "comparesigned" ∷ later "jumpby" ∷ later "jumpbyeq" ∷ later "jumpbylt" ∷ later "jumpbygt" ∷
    later "shiftleft" ∷ later "shiftright" ∷ later "negate" ∷ []

unfoldable pub kept_in : List Row → List ℕ → Kept
kept_in [] w = Kept.Free
kept_in (r ∷ rs) w = elim (same r.spelt w) [ true ↦ r.kept | false ↦ kept_in rs w ]

-- what a word is
unfoldable pub kept_as : List ℕ → Kept
kept_as w = kept_in kept_words w

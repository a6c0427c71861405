-- "Printing": a list of words as the text of a script, and what the two public calls on it answer.
use Rattle.std.specs.Prelude.{Bool, true, false, ◌&&◌, List, [], ◌∷◌, ◌++◌, ℕ, ◌+◌, ◌*◌, eqb, leb, ltb, length, drop, Err, Ok, Result}
use Rattle.paper.specs.Orders.{a_of, b_of}
use Rattle.paper.specs.Runner.{decimal, space, newline}
use Rattle.grammar.specs.Tokens.{bytes}
use Rattle.grammar.specs.Kept.{Row, kept_words}
use Rattle.grammar.specs.Texts.{number}
use Rattle.grammar.specs.declared.Kept.{Kept}
use Rattle.grammar.specs.declared.Operands.{Operands}
use Rattle.grammar.specs.declared.Refusal.{Refusal}

-- registers are 0 to 7
abbrev pub is_register : ℕ → Bool
is_register r = ltb r 8

-- whether w is the first word of an order: f is its first word where both registers are 0
abbrev pub is_first : Operands → ℕ → ℕ → Bool
is_first Operands.Nothing f w = eqb w f
is_first Operands.Sum f w = eqb w f
is_first Operands.RegisterSum f w = is_register (a_of w) && eqb w (f + 16 * a_of w)
is_first Operands.Registers f w = is_register (a_of w) && (is_register (b_of w) && eqb w (f + 16 * a_of w + b_of w))

-- the order that a word is the first of: its name and its operands
pub data Named : Type 0 where
  none : Named
  order : List ℕ → Operands → Named

abbrev pub named_by : Kept → List ℕ → ℕ → Named → Named
named_by Kept.Free name w later = later
named_by (Kept.Register a) name w later = later
named_by (Kept.Order o f) name w later = elim (is_first o f w) [ true ↦ Named.order name o | false ↦ later ]
named_by Kept.Later name w later = later

unfoldable pub named_in : List Row → ℕ → Named
named_in [] w = Named.none
named_in (r ∷ rs) w = named_by r.kept r.spelt w (named_in rs w)

unfoldable pub named_as : ℕ → Named
named_as w = named_in kept_words w

-- for each operand one space and the operand
abbrev pub register_text : ℕ → List ℕ
register_text r = bytes " r" ++ decimal r

abbrev pub number_text : ℕ → List ℕ
number_text n = space ++ decimal n

-- how a word is spelt: as a number, as an order of one word, or as an order up to its second word
pub data Spelling : Type 0 where
  plain : Spelling
  one : List ℕ → Spelling
  two : List ℕ → Spelling

abbrev pub spelling : Named → ℕ → Spelling
spelling Named.none w = Spelling.plain
spelling (Named.order name Operands.Nothing) w = Spelling.one name
spelling (Named.order name Operands.Sum) w = Spelling.two name
spelling (Named.order name Operands.RegisterSum) w = Spelling.two (name ++ register_text (a_of w))
spelling (Named.order name Operands.Registers) w = Spelling.one (name ++ (register_text (a_of w) ++ register_text (b_of w)))

-- the line of a word that is the last, and of an order with its second word
abbrev pub line_alone : Spelling → ℕ → List ℕ
line_alone Spelling.plain w = decimal w
line_alone (Spelling.one l) w = l
line_alone (Spelling.two l) w = decimal w

abbrev pub line_of_two : List ℕ → ℕ → List ℕ
line_of_two l n = l ++ number_text n

-- the text of a list of words
unfoldable pub printed : List ℕ → List ℕ
printed [] = []
printed (w ∷ []) = line_alone (spelling (named_as w) w) w ++ newline
printed (w ∷ n ∷ ws) =
    elim (spelling (named_as w) w) [
      | Spelling.plain ↦ decimal w ++ (newline ++ printed (n ∷ ws))
      | Spelling.one l ↦ l ++ (newline ++ printed (n ∷ ws))
      | Spelling.two l ↦ line_of_two l n ++ (newline ++ printed ws)
    ]

-- the longest list that is printed: as long as the longest segment
abbrev pub most_printed : ℕ
most_printed = 32715

-- how many bytes the text of a list needs; 16 where the list is too long
unfoldable pub measured : List ℕ → Result ℕ Refusal
measured ws = elim (leb (length ws) most_printed) [ true ↦ Ok (length (printed ws)) | false ↦ Err Refusal.NoRoom ]

-- 16 as well where the text is longer than the buffer
abbrev pub fitting : Result ℕ Refusal → ℕ → Result ℕ Refusal
fitting (Ok n) room = elim (leb n room) [ true ↦ Ok n | false ↦ Err Refusal.NoRoom ]
fitting (Err r) room = Err r

unfoldable pub printing : List ℕ → ℕ → Result ℕ Refusal
printing ws room = fitting (measured ws) room

-- the answer in numbers
abbrev pub printing_number : Result ℕ Refusal → ℕ
printing_number (Ok n) = 0
printing_number (Err r) = number r

abbrev pub printing_bytes : Result ℕ Refusal → ℕ
printing_bytes (Ok n) = n
printing_bytes (Err r) = 0

-- the buffer after it: the text, and the bytes past it as they were; a refusal alters none
abbrev pub inscribed : Result ℕ Refusal → List ℕ → List ℕ → List ℕ
inscribed (Ok n) text buffer = text ++ drop (length text) buffer
inscribed (Err r) text buffer = buffer

-- The rules of a line: a line of the names, and a line of the script, each by its tokens.
use Rattle.std.specs.Prelude.{List, [], ◌∷◌, true, false, ℕ, ◌+◌, ◌*◌, Err, Ok, Result, None, Option, Some}
use Rattle.grammar.specs.Tokens.{Token, label_mark, equals_mark, begins, rest}
use Rattle.grammar.specs.Kept.{kept_as}
use Rattle.grammar.specs.Sums.{Entry, Reading, sum_of}
use Rattle.grammar.specs.declared.Given.{Given}
use Rattle.grammar.specs.declared.Kept.{Kept}
use Rattle.grammar.specs.declared.NoValue.{NoValue}
use Rattle.grammar.specs.declared.Operands.{Operands}

-- names-line = [ name "=" sum ]
pub data NamesLine : Type 0 where
  outside : NamesLine
  blank : NamesLine
  gives : List ℕ → Result ℕ NoValue → NamesLine

abbrev pub gives_sum : List ℕ → Reading → NamesLine
gives_sum w Reading.outside = NamesLine.outside
gives_sum w (Reading.read v ts) = NamesLine.gives w v

abbrev pub gives_name : List Entry → Kept → List ℕ → List Token → NamesLine
gives_name es Kept.Free w ts = elim (begins equals_mark ts) [ true ↦ gives_sum w (sum_of es (rest ts)) | false ↦ NamesLine.outside ]
gives_name es (Kept.Register a) w ts = NamesLine.outside
gives_name es (Kept.Order o f) w ts = NamesLine.outside
gives_name es Kept.Later w ts = NamesLine.outside

unfoldable pub names_line : List Entry → List Token → NamesLine
names_line es [] = NamesLine.blank
names_line es (Token.number ds ∷ ts) = NamesLine.outside
names_line es (Token.word w ∷ ts) = gives_name es (kept_as w) w ts
names_line es (Token.mark b ∷ ts) = NamesLine.outside
names_line es (Token.stray ∷ ts) = NamesLine.outside

-- script-line = [ name ":" ] [ order | sum ]: its label, and the tokens after the label
pub data Label : Type 0 where
  none : Label
  label : List ℕ → Label

abbrev pub named : Kept → List ℕ → Label
named Kept.Free w = Label.label w
named (Kept.Register a) w = Label.none
named (Kept.Order o f) w = Label.none
named Kept.Later w = Label.none

unfoldable pub label_of : List Token → Label
label_of [] = Label.none
label_of (Token.number ds ∷ ts) = Label.none
label_of (Token.word w ∷ ts) = elim (begins label_mark ts) [ true ↦ named (kept_as w) w | false ↦ Label.none ]
label_of (Token.mark b ∷ ts) = Label.none
label_of (Token.stray ∷ ts) = Label.none

abbrev pub after : Label → List Token → List Token
after Label.none ts = ts
after (Label.label w) ts = rest (rest ts)

abbrev pub body_of : List Token → List Token
body_of ts = after (label_of ts) ts

-- how many words a body gives, by its first token
abbrev pub words_by : Operands → ℕ
words_by Operands.Nothing = 1
words_by Operands.Sum = 2
words_by Operands.RegisterSum = 2
words_by Operands.Registers = 1

abbrev pub words_of_kept : Kept → ℕ
words_of_kept Kept.Free = 1
words_of_kept (Kept.Register a) = 1
words_of_kept (Kept.Order o f) = words_by o
words_of_kept Kept.Later = 1

unfoldable pub size_of : List Token → ℕ
size_of [] = 0
size_of (Token.number ds ∷ ts) = 1
size_of (Token.word w ∷ ts) = words_of_kept (kept_as w)
size_of (Token.mark b ∷ ts) = 1
size_of (Token.stray ∷ ts) = 1

-- a register as an operand, and the tokens after it
pub data Operand : Type 0 where
  missing : Operand
  at : ℕ → List Token → Operand

abbrev pub register_as : Kept → List Token → Operand
register_as Kept.Free ts = Operand.missing
register_as (Kept.Register a) ts = Operand.at a ts
register_as (Kept.Order o f) ts = Operand.missing
register_as Kept.Later ts = Operand.missing

unfoldable pub register : List Token → Operand
register [] = Operand.missing
register (Token.number ds ∷ ts) = Operand.missing
register (Token.word w ∷ ts) = register_as (kept_as w) ts
register (Token.mark b ∷ ts) = Operand.missing
register (Token.stray ∷ ts) = Operand.missing

-- order = order-name operands: its first word, with the registers a and b, and its second
abbrev pub one : ℕ → List Token → Option Given
one f [] = Some (Given.One (Ok f))
one f (t ∷ ts) = None

abbrev pub two : ℕ → Reading → Option Given
two f Reading.outside = None
two f (Reading.read v ts) = Some (Given.Two f v)

abbrev pub with_sum : List Entry → ℕ → Operand → Option Given
with_sum es f Operand.missing = None
with_sum es f (Operand.at a ts) = two (f + 16 * a) (sum_of es ts)

abbrev pub with_second : ℕ → Operand → Option Given
with_second f Operand.missing = None
with_second f (Operand.at b ts) = one (f + b) ts

abbrev pub with_registers : ℕ → Operand → Option Given
with_registers f Operand.missing = None
with_registers f (Operand.at a ts) = with_second (f + 16 * a) (register ts)

abbrev pub order : List Entry → Operands → ℕ → List Token → Option Given
order es Operands.Nothing f ts = one f ts
order es Operands.Sum f ts = two f (sum_of es ts)
order es Operands.RegisterSum f ts = with_sum es f (register ts)
order es Operands.Registers f ts = with_registers f (register ts)

-- a sum as a line of its own gives one word
abbrev pub sum_line : Reading → Option Given
sum_line Reading.outside = None
sum_line (Reading.read v ts) = Some (Given.One v)

abbrev pub body_by : List Entry → Kept → List Token → List Token → Option Given
body_by es Kept.Free line ts = sum_line (sum_of es line)
body_by es (Kept.Register a) line ts = None
body_by es (Kept.Order o f) line ts = order es o f ts
body_by es Kept.Later line ts = None

unfoldable pub given : List Entry → List Token → Option Given
given es [] = Some Given.Nothing
given es (Token.number ds ∷ ts) = sum_line (sum_of es (Token.number ds ∷ ts))
given es (Token.word w ∷ ts) = body_by es (kept_as w) (Token.word w ∷ ts) ts
given es (Token.mark b ∷ ts) = sum_line (sum_of es (Token.mark b ∷ ts))
given es (Token.stray ∷ ts) = None

-- the words that a line gives
abbrev pub worked_word : ℕ → Result ℕ NoValue → List ℕ
worked_word f (Ok v) = f ∷ v ∷ []
worked_word f (Err e) = []

abbrev pub one_word : Result ℕ NoValue → List ℕ
one_word (Ok v) = v ∷ []
one_word (Err e) = []

abbrev pub line_words : Option Given → List ℕ
line_words None = []
line_words (Some Given.Nothing) = []
line_words (Some (Given.One v)) = one_word v
line_words (Some (Given.Two f v)) = worked_word f v

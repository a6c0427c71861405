-- Two texts: what they give, the refusals with their order of tests, the line that is named, and the words.
use Rattle.std.specs.Prelude.{true, false, List, [], ◌∷◌, ◌++◌, ℕ, ◌+◌, min, leb, ltb, length, take, drop, Err, None, Ok, Option, Result, Some}
use Rattle.grammar.specs.Tokens.{lines, tokens}
use Rattle.grammar.specs.Sums.{Entry, find, end_of_range}
use Rattle.grammar.specs.Lines.{NamesLine, names_line, Label, label_of, body_of, size_of, given, line_words}
use Rattle.grammar.specs.declared.Given.{Given}
use Rattle.grammar.specs.declared.Line.{Line}
use Rattle.grammar.specs.declared.NoValue.{NoValue}
use Rattle.grammar.specs.declared.Refusal.{Refusal}
use Rattle.grammar.specs.declared.Text.{Text}

-- the numbers
abbrev pub number : Refusal → ℕ
number Refusal.OutsideGrammar = 13
number Refusal.NameFault = 14
number Refusal.OutOfRange = 15
number Refusal.NoRoom = 16

-- the two texts give at most 8192 names and labels together; one more is outside the grammar and is not kept
abbrev pub most_names : ℕ
most_names = 8192

abbrev pub give : List Entry → List ℕ → ℕ → List Entry
give es w v = elim (ltb (length es) most_names) [ true ↦ record { spelt = w; value = v } ∷ es | false ↦ es ]

-- what is wrong with a name or label that is given after those before it
abbrev pub again_flaw : Option ℕ → Option Refusal
again_flaw None = None
again_flaw (Some v) = Some Refusal.NameFault

abbrev pub give_flaw : List Entry → List ℕ → Option Refusal
give_flaw es w = elim (ltb (length es) most_names) [ true ↦ again_flaw (find es w) | false ↦ Some Refusal.OutsideGrammar ]

-- what is wrong with a value
abbrev pub worked_flaw : Result ℕ NoValue → Option Refusal
worked_flaw (Ok v) = None
worked_flaw (Err NoValue.Missing) = Some Refusal.NameFault
worked_flaw (Err NoValue.Beyond) = Some Refusal.OutOfRange

-- of two things that are wrong with a line, the one with the lower number
abbrev pub lower : Option Refusal → Option Refusal → Option Refusal
lower None y = y
lower (Some r) None = Some r
lower (Some r) (Some q) = elim (ltb (number q) (number r)) [ true ↦ Some q | false ↦ Some r ]

-- a line of the names: what is wrong with it, and what is given after it
abbrev pub names_flaw : List Entry → NamesLine → Option Refusal
names_flaw es NamesLine.outside = Some Refusal.OutsideGrammar
names_flaw es NamesLine.blank = None
names_flaw es (NamesLine.gives w v) = lower (give_flaw es w) (worked_flaw v)

-- a name whose sum has no value is kept as one out of range
abbrev pub kept_value : Result ℕ NoValue → ℕ
kept_value (Ok v) = v
kept_value (Err e) = end_of_range

abbrev pub names_give : List Entry → NamesLine → List Entry
names_give es NamesLine.outside = es
names_give es NamesLine.blank = es
names_give es (NamesLine.gives w v) = give es w (kept_value v)

-- a line of the script: its label's value is the number of words that the lines above it give
abbrev pub label_gives : List Entry → ℕ → Label → List Entry
label_gives es place Label.none = es
label_gives es place (Label.label w) = give es w (min place end_of_range)

abbrev pub label_flaw : List Entry → Label → Option Refusal
label_flaw es Label.none = None
label_flaw es (Label.label w) = give_flaw es w

abbrev pub given_flaw : Option Given → Option Refusal
given_flaw None = Some Refusal.OutsideGrammar
given_flaw (Some Given.Nothing) = None
given_flaw (Some (Given.One v)) = worked_flaw v
given_flaw (Some (Given.Two f v)) = worked_flaw v

-- the fault that is named: the lowest number, and of lines with that number the first
abbrev pub noted : Option (Refusal × Line) → Option Refusal → Line → Option (Refusal × Line)
noted f None l = f
noted None (Some r) l = Some (r, l)
noted (Some (q, k)) (Some r) l = elim (ltb (number r) (number q)) [ true ↦ Some (r, l) | false ↦ Some (q, k) ]

abbrev pub line : Text → ℕ → List ℕ → Line
line t at l = record { text = t; from = at; count = length l }

-- the next line begins after a line and its byte 10
abbrev pub next : ℕ → List ℕ → ℕ
next at l = at + length l + 1

-- the names: what they give, and their fault
unfoldable pub names_given : List Entry → List (List ℕ) → List Entry
names_given es [] = es
names_given es (l ∷ ls) = names_given (names_give es (names_line es (tokens l))) ls

unfoldable pub names_fault : List Entry → Option (Refusal × Line) → ℕ → List (List ℕ) → Option (Refusal × Line)
names_fault es f at [] = f
names_fault es f at (l ∷ ls) =
    names_fault (names_give es (names_line es (tokens l))) (noted f (names_flaw es (names_line es (tokens l))) (line Text.Names at l)) (next at l) ls

-- the script: its labels, its fault where the names and labels `all` are given and `above` those on the lines above, its words and its last line
unfoldable pub labels_given : List Entry → ℕ → List (List ℕ) → List Entry
labels_given es place [] = es
labels_given es place (l ∷ ls) =
    labels_given (label_gives es place (label_of (tokens l))) (place + size_of (body_of (tokens l))) ls

abbrev pub script_flaw : List Entry → List Entry → List ℕ → Option Refusal
script_flaw all above l = lower (label_flaw above (label_of (tokens l))) (given_flaw (given all (body_of (tokens l))))

unfoldable pub script_fault : List Entry → List Entry → ℕ → Option (Refusal × Line) → ℕ → List (List ℕ) → Option (Refusal × Line)
script_fault all above place f at [] = f
script_fault all above place f at (l ∷ ls) =
    script_fault all (label_gives above place (label_of (tokens l))) (place + size_of (body_of (tokens l))) (noted f (script_flaw all above l) (line Text.Script at l)) (next at l) ls

unfoldable pub script_words : List Entry → List (List ℕ) → List ℕ
script_words all [] = []
script_words all (l ∷ ls) = line_words (given all (body_of (tokens l))) ++ script_words all ls

unfoldable pub last_line : Line → ℕ → List (List ℕ) → Line
last_line k at [] = k
last_line k at (l ∷ ls) = last_line (line Text.Script at l) (next at l) ls

-- all that is given, and the program's words
abbrev pub given_names : List ℕ → List Entry
given_names names = names_given [] (lines names)

abbrev pub given_all : List ℕ → List ℕ → List Entry
given_all names script = labels_given (given_names names) 0 (lines script)

unfoldable pub program : List ℕ → List ℕ → List ℕ
program names script = script_words (given_all names script) (lines script)

-- 16: more words than the target has; the script's last line is named
abbrev pub room_flaw : ℕ → ℕ → Option Refusal
room_flaw count room = elim (leb count room) [ true ↦ None | false ↦ Some Refusal.NoRoom ]

abbrev pub nowhere : Line
nowhere = line Text.Script 0 []

-- the fault of both texts, names before script
abbrev pub texts_fault : List ℕ → List ℕ → Option (Refusal × Line)
texts_fault names script =
    script_fault (given_all names script) (given_names names) 0 (names_fault [] None 0 (lines names)) 0 (lines script)

abbrev pub fault_of : List ℕ → List ℕ → ℕ → Option (Refusal × Line)
fault_of names script room =
    noted (texts_fault names script) (room_flaw (length (program names script)) room) (last_line nowhere 0 (lines script))

abbrev pub judged_as : Option (Refusal × Line) → ℕ → Result ℕ (Refusal × Line)
judged_as None count = Ok count
judged_as (Some f) count = Err f

-- what two texts come to, for a target of so many words
unfoldable pub judged : List ℕ → List ℕ → ℕ → Result ℕ (Refusal × Line)
judged names script room = judged_as (fault_of names script room) (length (program names script))

-- the answer of a translation, and its numbers
abbrev pub answered : Result ℕ (Refusal × Line) → Result ℕ (Refusal × Text)
answered (Ok count) = Ok count
answered (Err (r, l)) = Err (r, l.text)

abbrev pub translation_number : Result ℕ (Refusal × Text) → ℕ
translation_number (Ok count) = 0
translation_number (Err (r, t)) = number r

abbrev pub translation_words : Result ℕ (Refusal × Text) → ℕ
translation_words (Ok count) = count
translation_words (Err f) = 0

-- the names are text 0, the script text 1; where nothing is refused 65535 is said, which is neither
abbrev pub text_number : Text → ℕ
text_number Text.Names = 0
text_number Text.Script = 1

abbrev pub no_text : ℕ
no_text = 65535

abbrev pub translation_text : Result ℕ (Refusal × Text) → ℕ
translation_text (Ok count) = no_text
translation_text (Err (r, t)) = text_number t

-- the target after it: the words, and those past them as they were; a refusal alters none
abbrev pub stored : Result ℕ (Refusal × Line) → List ℕ → List ℕ → List ℕ
stored (Ok count) words target = words ++ drop (length words) target
stored (Err f) words target = target

-- the refused line as the part of the text that it stands in; where nothing is refused, the empty part at the script's start
abbrev pub named_line : Result ℕ (Refusal × Line) → Line
named_line (Ok count) = nowhere
named_line (Err (r, l)) = l

abbrev pub text_of : Text → List ℕ → List ℕ → List ℕ
text_of Text.Names names script = names
text_of Text.Script names script = script

abbrev pub part_of : Line → List ℕ → List ℕ → List ℕ
part_of l names script = take l.count (drop l.from (text_of l.text names script))

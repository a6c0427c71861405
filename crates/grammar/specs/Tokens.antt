-- "Bytes and lines": the lines of a text, the bytes that stand in a line, and a line's tokens.
use Rattle.std.specs.Prelude.{Bool, true, false, ◌&&◌, ◌||◌, List, [], ◌∷◌, ◌++◌, ℕ, leb, eqb}
use Prim.Native.Char.{code}
use Prim.Native.String.{String, [] as no_more, ◌∷◌ as ◌then◌}

-- the bytes of a text that is written out
unfoldable pub bytes : String → List ℕ
bytes no_more = []
bytes (c then s) = code c ∷ bytes s

-- the byte 10 ends a line; the last line may lack it
abbrev pub line_end : ℕ
line_end = 10

abbrev pub joined : ℕ → List (List ℕ) → List (List ℕ)
joined b [] = (b ∷ []) ∷ []
joined b (l ∷ ls) = (b ∷ l) ∷ ls

unfoldable pub lines : List ℕ → List (List ℕ)
lines [] = []
lines (b ∷ bs) = elim (eqb b line_end) [ true ↦ [] ∷ lines bs | false ↦ joined b (lines bs) ]

-- the first line of a text: the part before its byte 10
unfoldable pub first_line : List ℕ → List ℕ
first_line [] = []
first_line (b ∷ bs) = elim (eqb b line_end) [ true ↦ [] | false ↦ b ∷ first_line bs ]

-- a `;` begins a comment
abbrev pub comment : ℕ
comment = 59

-- the blanks: space, tab and byte 13
abbrev pub blank : ℕ → Bool
blank b = eqb b 32 || (eqb b 9 || eqb b 13)

abbrev pub letter : ℕ → Bool
letter b = leb 97 b && leb b 122

abbrev pub digit : ℕ → Bool
digit b = leb 48 b && leb b 57

-- what a word goes on with: a letter, a digit, `_`
abbrev pub word_byte : ℕ → Bool
word_byte b = letter b || (digit b || eqb b 95)

-- the marks: + - * ( ) : =
abbrev pub plus_mark : ℕ
plus_mark = 43

abbrev pub minus_mark : ℕ
minus_mark = 45

abbrev pub times_mark : ℕ
times_mark = 42

abbrev pub open_mark : ℕ
open_mark = 40

abbrev pub close_mark : ℕ
close_mark = 41

abbrev pub label_mark : ℕ
label_mark = 58

abbrev pub equals_mark : ℕ
equals_mark = 61

abbrev pub is_mark : ℕ → Bool
is_mark b =
    eqb b plus_mark || (eqb b minus_mark || (eqb b times_mark || (eqb b open_mark || (eqb b close_mark || (eqb b label_mark || eqb b equals_mark)))))

-- a token: a number by its digits, a word by its bytes, a mark; or a byte that never stands there
pub data Token : Type 0 where
  number : List ℕ → Token
  word : List ℕ → Token
  mark : ℕ → Token
  stray : Token

-- a number or a word that may still go on
pub data Open : Type 0 where
  none : Open
  in_number : List ℕ → Open
  in_word : List ℕ → Open

abbrev pub goes_on : Open → ℕ → Bool
goes_on none b = false
goes_on (in_number ds) b = digit b
goes_on (in_word w) b = word_byte b

abbrev pub longer : Open → ℕ → Open
longer none b = none
longer (in_number ds) b = in_number (ds ++ (b ∷ []))
longer (in_word w) b = in_word (w ++ (b ∷ []))

abbrev pub ended : Open → List Token
ended none = []
ended (in_number ds) = number ds ∷ []
ended (in_word w) = word w ∷ []

-- what a byte begins, and the token that it is by itself
abbrev pub begun : ℕ → Open
begun b = elim (letter b) [ true ↦ in_word (b ∷ []) | false ↦ elim (digit b) [ true ↦ in_number (b ∷ []) | false ↦ none ] ]

abbrev pub alone : ℕ → List Token
alone b =
    elim (letter b || (digit b || blank b)) [ true ↦ [] | false ↦ elim (is_mark b) [ true ↦ mark b ∷ [] | false ↦ stray ∷ [] ] ]

-- each token as long as it can be; a comment ends the row
unfoldable pub tokens_on : Open → List ℕ → List Token
tokens_on o [] = ended o
tokens_on o (b ∷ bs) =
    elim (eqb b comment) [
      | true ↦ ended o
      | false ↦ elim (goes_on o b) [ true ↦ tokens_on (longer o b) bs | false ↦ ended o ++ (alone b ++ tokens_on (begun b) bs) ]
    ]

-- the tokens of a line, or of what is left of it
unfoldable pub tokens : List ℕ → List Token
tokens bs = tokens_on none bs

-- whether a row begins with a mark, and the row after its first token
abbrev pub begins : ℕ → List Token → Bool
begins b [] = false
begins b (number ds ∷ ts) = false
begins b (word w ∷ ts) = false
begins b (mark c ∷ ts) = eqb c b
begins b (stray ∷ ts) = false

abbrev pub rest : List Token → List Token
rest [] = []
rest (t ∷ ts) = ts

-- whether two words are the same
unfoldable pub same : List ℕ → List ℕ → Bool
same [] [] = true
same [] (b ∷ bs) = false
same (a ∷ w) [] = false
same (a ∷ w) (b ∷ bs) = eqb a b && same w bs

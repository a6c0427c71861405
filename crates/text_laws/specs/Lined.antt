-- What the laws of the text form name: the lines of both texts, each with what is wrong with it, and the first of those with the lowest number.
use Rattle.std.specs.Prelude.{◌≡◌, List, [], ◌∷◌, ◌++◌, map, ℕ, suc, ◌+◌, ◌<◌, ◌≤◌, length, get_or, Err, None, Ok, Option, Result, Some}
use Rattle.grammar.specs.Tokens.{lines, tokens}
use Rattle.grammar.specs.Sums.{Entry}
use Rattle.grammar.specs.Lines.{names_line, label_of, body_of, size_of}
use Rattle.grammar.specs.Texts.{number, names_flaw, names_give, label_gives, script_flaw, noted, line, next, given_names, given_all, program, last_line, nowhere, text_of}
use Rattle.grammar.specs.declared.Line.{Line}
use Rattle.grammar.specs.declared.Refusal.{Refusal}
use Rattle.grammar.specs.declared.Text.{Text}

-- a line, and what is wrong with it
pub record Judgement : Type 0 where
  pub flaw : Option Refusal
  pub line : Line

abbrev pub judgement : Option Refusal → Line → Judgement
judgement w l = record { flaw = w; line = l }

-- the lines of the names, after names that are given
unfoldable pub names_lines : List Entry → ℕ → List (List ℕ) → List Judgement
names_lines es at [] = []
names_lines es at (l ∷ ls) =
    judgement (names_flaw es (names_line es (tokens l))) (line Text.Names at l) ∷ names_lines (names_give es (names_line es (tokens l))) (next at l) ls

-- the lines of the script, where `all` is given and `above` on the lines above, which give so many words
unfoldable pub script_lines : List Entry → List Entry → ℕ → ℕ → List (List ℕ) → List Judgement
script_lines all above place at [] = []
script_lines all above place at (l ∷ ls) =
    judgement (script_flaw all above l) (line Text.Script at l) ∷ script_lines all (label_gives above place (label_of (tokens l))) (place + size_of (body_of (tokens l))) (next at l) ls

-- the lines of both texts, names before script
abbrev pub all_lines : List ℕ → List ℕ → List Judgement
all_lines names script =
    names_lines [] 0 (lines names) ++ script_lines (given_all names script) (given_names names) 0 0 (lines script)

-- where the lines of a text stand, and the line of a number, counted from 0
abbrev pub placed : Text → ℕ → List (List ℕ) → List Line
placed t at [] = []
placed t at (l ∷ ls) = line t at l ∷ placed t (next at l) ls

abbrev pub numbered : List ℕ → List ℕ → Text → ℕ → Line
numbered names script t i = get_or (placed t 0 (lines (text_of t names script))) i nowhere

-- how many words two texts give, and the script's last line
abbrev pub count : List ℕ → List ℕ → ℕ
count names script = length (program names script)

abbrev pub last : List ℕ → Line
last script = last_line nowhere 0 (lines script)

-- the fault that is named after more lines
abbrev pub noted_all : Option (Refusal × Line) → List Judgement → Option (Refusal × Line)
noted_all f [] = f
noted_all f (j ∷ js) = noted_all (noted f j.flaw j.line) js

-- nothing that is wrong with a line has a number below n
abbrev pub NoneBelow : ℕ → Option Refusal → Type 0
NoneBelow n None = Unit {0}
NoneBelow n (Some r) = n ≤ number r

-- what holds of the flaw of each line
abbrev pub Each : ((Option Refusal) → Type 0) → List Judgement → Type 0
Each P [] = Unit {0}
Each P (j ∷ js) = P j.flaw × Each P js

-- nothing is wrong with any line
abbrev pub Clean : List Judgement → Type 0
Clean js = Each (λ w. w ≡ None) js

-- a line has the number of r, none before it has that number or a lower one, and none after it a lower one
pub record First (r : Refusal) (l : Line) (js : List Judgement) : Type 0 where
  pub before : List Judgement
  pub after : List Judgement
  pub stands : js ≡ before ++ (judgement (Some r) l ∷ after)
  pub none_before : Each (NoneBelow (suc (number r))) before
  pub none_after : Each (NoneBelow (number r)) after

-- two pairs of texts whose lines have the same tokens: they differ in blanks and comments alone
pub record Alike (names script names' script' : List ℕ) : Type 0 where
  pub in_names : map tokens (lines names) ≡ map tokens (lines names')
  pub in_script : map tokens (lines script) ≡ map tokens (lines script')

-- a line of the one pair and a line of the other that have the same number in the same text
pub record SameLine (names script names' script' : List ℕ) (l l' : Line) : Type 0 where
  pub text : Text
  pub number : ℕ
  pub within : number < length (lines (text_of text names script))
  pub is : l ≡ numbered names script text number
  pub within' : number < length (lines (text_of text names' script'))
  pub is' : l' ≡ numbered names' script' text number

-- two pairs of texts come to the same: the same count of words, or the same number for the same line
abbrev pub SameJudged : (Line → Line → Type 0) → Result ℕ (Refusal × Line) → Result ℕ (Refusal × Line) → Type 0
SameJudged R (Ok n) (Ok m) = n ≡ m
SameJudged R (Ok n) (Err (q, k)) = ⊥
SameJudged R (Err (r, l)) (Ok m) = ⊥
SameJudged R (Err (r, l)) (Err (q, k)) = (r ≡ q) × R l k

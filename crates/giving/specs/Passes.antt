-- What each pass over the lines leaves, as the definitions have it.
use Rattle.std.specs.Prelude.{◌≡◌, true, false, List, [], ℕ, ◌+◌, ◌-◌, ◌<◌, ◌≤◌, ltb, length, take, drop, None, Option, Result}
use Rattle.grammar.specs.Tokens.{tokens, lines}
use Rattle.grammar.specs.Lines.{Label, names_line, label_of, body_of, size_of, given, line_words}
use Rattle.grammar.specs.Texts.{give, names_give, names_flaw, label_gives, script_flaw, noted, line, names_given, names_fault, labels_given, script_fault, script_words, last_line, nowhere, room_flaw, judged_as}
use Rattle.grammar.specs.declared.Line.{Line}
use Rattle.grammar.specs.declared.Refusal.{Refusal}
use Rattle.grammar.specs.declared.Text.{Text}
use Rattle.tables.specs.Tables.{Table, entries, entry_word, text_of, Chained, Headed, most}

-- a name or label given: an entry more, unless the table t of n entries is full
pub record GiveMade (t u : Table) (n : ℕ) (heads : List ℕ) (from count value r : ℕ) : Type 0 where
  pub made : entries u r ≡ give (entries t n) (take count (drop from (text_of t n))) value
  pub stay : entries u n ≡ entries t n
  pub grows : n ≤ r
  pub chained : Chained u r
  pub headed : Headed u r heads

-- a line l of the names, which begins at a place
pub record NameRead (t u : Table) (n : ℕ) (heads : List ℕ) (at : ℕ) (l : List ℕ) (before : Option (Refusal × Line)) (r : ℕ) (after : Option (Refusal × Line)) : Type 0 where
  pub given : entries u r ≡ names_give (entries t n) (names_line (entries t n) (tokens l))
  pub fault : after ≡ noted before (names_flaw (entries t n) (names_line (entries t n) (tokens l))) (line Text.Names at l)
  pub chained : Chained u r
  pub headed : Headed u r heads

-- all lines of the names
pub record NamesRead (u : Table) (heads names : List ℕ) (r : ℕ) (after : Option (Refusal × Line)) : Type 0 where
  pub given : entries u r ≡ names_given [] (lines names)
  pub fault : after ≡ names_fault [] None 0 (lines names)
  pub chained : Chained u r
  pub headed : Headed u r heads

-- a line l of the script, read for its label
pub record LabelRead (t u : Table) (n : ℕ) (heads l : List ℕ) (place r next : ℕ) : Type 0 where
  pub given : entries u r ≡ label_gives (entries t n) place (label_of (tokens l))
  pub counted : next ≡ place + size_of (body_of (tokens l))
  pub few : next ≤ place + 2
  pub stay : entries u n ≡ entries t n
  pub grows : n ≤ r
  pub chained : Chained u r
  pub headed : Headed u r heads

-- all lines of the script, read for their labels
pub record LabelsRead (t u : Table) (split : ℕ) (heads script : List ℕ) (r : ℕ) : Type 0 where
  pub given : entries u r ≡ labels_given (entries t split) 0 (lines script)
  pub stay : entries u split ≡ entries t split
  pub grows : split ≤ r
  pub chained : Chained u r
  pub headed : Headed u r heads

-- a label that is given after m entries has the next one, unless the table is full
abbrev pub Known : Table → ℕ → ℕ → List ℕ → Type 0
Known t n m w = m < most → (m < n) × (w ≡ entry_word t m)

abbrev pub KnownLabel : Table → ℕ → ℕ → Label → Type 0
KnownLabel t n m Label.none = Unit {0}
KnownLabel t n m (Label.label w) = Known t n m w

-- one entry more, unless the table is full
abbrev pub one_more : ℕ → ℕ
one_more m = elim (ltb m most) [ true ↦ m + 1 | false ↦ m ]

abbrev pub above_after : ℕ → Label → ℕ
above_after m Label.none = m
above_after m (Label.label w) = one_more m

-- a line l of the script, judged with n entries given, m of them above it
pub record LineJudged (t : Table) (n m at : ℕ) (l : List ℕ) (before : Option (Refusal × Line)) (words : ℕ) (above : ℕ) (after : Option (Refusal × Line)) (more : ℕ) : Type 0 where
  pub fault : after ≡ noted before (script_flaw (entries t n) (entries t m) l) (line Text.Script at l)
  pub counted : more ≡ words + length (line_words (given (entries t n) (body_of (tokens l))))
  pub few : more ≤ words + 2
  pub stands : above ≡ above_after m (label_of (tokens l))

-- the entries after the names are those of the script's labels
abbrev pub Labelled : Table → ℕ → ℕ → List ℕ → Type 0
Labelled t split n script = entries t n ≡ labels_given (entries t split) 0 (lines script)

-- a line of the script from a place to another
abbrev pub line_at : ℕ → ℕ → Line
line_at from end = record { text = Text.Script; from = from; count = end - from }

-- the script, judged for a target of so many words
abbrev pub script_judged : Table → ℕ → ℕ → List ℕ → Option (Refusal × Line) → ℕ → Result ℕ (Refusal × Line)
script_judged t split n script before room =
    judged_as (noted (script_fault (entries t n) (entries t split) 0 before 0 (lines script)) (room_flaw (length (script_words (entries t n) (lines script))) room) (last_line nowhere 0 (lines script)))
    (length (script_words (entries t n) (lines script)))

abbrev pub ScriptJudged : Table → ℕ → ℕ → List ℕ → Option (Refusal × Line) → ℕ → Result ℕ (Refusal × Line) → Type 0
ScriptJudged t split n script before room r = r ≡ script_judged t split n script before room

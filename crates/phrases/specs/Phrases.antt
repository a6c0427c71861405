-- What the code finds in a line, as the definitions have it.
use Rattle.std.specs.Prelude.{◌≡◌, Bool, true, false, List, ℕ, ◌<◌, ◌≤◌, length, None, Option, Some}
use Rattle.grammar.specs.Kept.{kept_as}
use Rattle.grammar.specs.Lines as Lines
use Rattle.grammar.specs.Lines.{label_of, body_of}
use Rattle.grammar.specs.Tokens.{tokens}
use Rattle.grammar.specs.declared.Kept.{Kept}
use Rattle.tokens.specs.Shown.{shown, Inside, part}
use Rattle.tokens.specs.declared.Token.{Token}
use Rattle.phrases.specs.declared.NamesLine.{NamesLine}

-- whether a word is free to be a name
abbrev pub free : Kept → Bool
free Kept.Free = true
free (Kept.Register a) = false
free (Kept.Order o f) = false
free Kept.Later = false

abbrev pub is_name : List ℕ → Bool
is_name w = free (kept_as w)

-- a line of the names
abbrev pub shown_names : List ℕ → Option NamesLine → Lines.NamesLine
shown_names l None = Lines.NamesLine.outside
shown_names l (Some NamesLine.Blank) = Lines.NamesLine.blank
shown_names l (Some (NamesLine.Gives from to v)) = Lines.NamesLine.gives (part l from to) v

abbrev pub NamesInside : List ℕ → Option NamesLine → Type 0
NamesInside l None = Unit {0}
NamesInside l (Some NamesLine.Blank) = Unit {0}
NamesInside l (Some (NamesLine.Gives from to v)) = (from ≤ to) × (to ≤ length l)

-- a line's label
abbrev pub shown_label : List ℕ → Option (ℕ × ℕ) → Lines.Label
shown_label l None = Lines.Label.none
shown_label l (Some (from, to)) = Lines.Label.label (part l from to)

abbrev pub LabelInside : List ℕ → Option (ℕ × ℕ) → Type 0
LabelInside l None = Unit {0}
LabelInside l (Some (from, to)) = (from ≤ to) × (to ≤ length l)

-- how a line of the script starts
pub record Starts (l : List ℕ) (label : Option (ℕ × ℕ)) (body : Token) : Type 0 where
  pub labelled : label_of (tokens l) ≡ shown_label l label
  pub follows : body_of (tokens l) ≡ shown l body
  pub label_inside : LabelInside l label
  pub body_inside : Inside l body

-- registers are below 8, and an order's first word, where both registers are 0, below 8192
abbrev pub order_end : ℕ
order_end = 8192

abbrev pub shown_operand : List ℕ → Option (ℕ × Token) → Lines.Operand
shown_operand l None = Lines.Operand.missing
shown_operand l (Some (a, t)) = Lines.Operand.at a (shown l t)

abbrev pub OperandInside : List ℕ → Option (ℕ × Token) → Type 0
OperandInside l None = Unit {0}
OperandInside l (Some (a, t)) = (a < 8) × Inside l t

-- Two texts as they were read, and a line in its text.
use Rattle.std.specs.Prelude.{◌≡◌, List, [], ℕ, ◌+◌, ◌≤◌, length, None, Option}
use Rattle.grammar.specs.Tokens.{lines}
use Rattle.grammar.specs.Texts.{names_fault, given_names, given_all, text_of}
use Rattle.grammar.specs.declared.Line.{Line}
use Rattle.grammar.specs.declared.Refusal.{Refusal}
use Rattle.tables.specs.Tables.{Table, entries, Chained, Headed}

-- all that two texts give stands in the table, the names first
pub record TextsRead (t : Table) (heads : List ℕ) (split filled : ℕ) (fault : Option (Refusal × Line)) : Type 0 where
  pub named : entries t split ≡ given_names t.names
  pub all : entries t filled ≡ given_all t.names t.script
  pub faulty : fault ≡ names_fault [] None 0 (lines t.names)
  pub grows : split ≤ filled
  pub chained : Chained t filled
  pub headed : Headed t filled heads

-- a line stands in its text
abbrev pub Within : List ℕ → List ℕ → Line → Type 0
Within names script l = l.from + l.count ≤ length (text_of l.text names script)

-- What the public calls on texts promise: the answer, what it is in numbers, and every word or byte that is lent to be written; and which part of which text is the refused line.
use Rattle.std.specs.Prelude.{◌≡◌, List, ℕ, ◌+◌, length, Result}
use Rattle.std.specs.Borrow.{Bor}
use Rattle.grammar.specs.Texts.{program, judged, answered, translation_number, translation_words, translation_text, stored, named_line, part_of}
use Rattle.grammar.specs.Printing.{printed, measured, printing, printing_number, printing_bytes, inscribed}
use Rattle.grammar.specs.declared.Line.{Line}
use Rattle.grammar.specs.declared.Refusal.{Refusal}
use Rattle.grammar.specs.declared.Text.{Text}

-- translating two texts
pub record Translates (names script target : List ℕ) (answer : Result ℕ (Refusal × Text)) (after : List ℕ) : Type 0 where
  pub answers : answer ≡ answered (judged names script (length target))
  pub numbered : translation_number answer ≡ translation_number (answered (judged names script (length target)))
  pub counted : translation_words answer ≡ translation_words (answered (judged names script (length target)))
  pub told : translation_text answer ≡ translation_text (answered (judged names script (length target)))
  pub left : after ≡ stored (judged names script (length target)) (program names script) target

-- where the text of a line begins in memory: its block, and its place there
abbrev pub block_of : Text → Bor (List ℕ) → Bor (List ℕ) → ℕ
block_of Text.Names names script = names.ref_ptr.0
block_of Text.Script names script = script.ref_ptr.0

abbrev pub place_of : Text → Bor (List ℕ) → Bor (List ℕ) → ℕ
place_of Text.Names names script = names.ref_ptr.1
place_of Text.Script names script = script.ref_ptr.1

-- the part of two lent texts that is a line
pub record IsLine (names script : Bor (List ℕ)) (l : Line) (part : Bor (List ℕ)) : Type 0 where
  pub bytes : part.now ≡ part_of l names.now script.now
  pub block : part.ref_ptr.0 ≡ block_of l.text names script
  pub place : part.ref_ptr.1 ≡ place_of l.text names script + l.from

-- the refused line of two texts, for a target of so many words
pub record NamesLine (names script : Bor (List ℕ)) (room : ℕ) (part : Bor (List ℕ)) : Type 0 where
  pub named : IsLine names script (named_line (judged names.now script.now room)) part

-- printing a list of words
pub record Prints (words buffer : List ℕ) (answer : Result ℕ Refusal) (after : List ℕ) : Type 0 where
  pub answers : answer ≡ printing words (length buffer)
  pub numbered : printing_number answer ≡ printing_number (printing words (length buffer))
  pub counted : printing_bytes answer ≡ printing_bytes (printing words (length buffer))
  pub left : after ≡ inscribed (printing words (length buffer)) (printed words) buffer

-- how many bytes printing a list needs
pub record MeasuresText (words : List ℕ) (answer : Result ℕ Refusal) : Type 0 where
  pub answers : answer ≡ measured words
  pub numbered : printing_number answer ≡ printing_number (measured words)
  pub counted : printing_bytes answer ≡ printing_bytes (measured words)

-- What the exported functions on texts promise, from what the calls behind them answer. Assumes nothing.
use Rattle.std.specs.Prelude.{Err, Result}
use mathlib.Core.Path.{◌≡◌, ap, ◌∙◌}
use mathlib.Core.List.{List}
use Prim.Native.Nat.{ℕ}
use Rattle.grammar.specs.Texts.{number, text_number, translation_words, translation_number, translation_text, judged, named_line}
use Rattle.grammar.specs.Printing.{printing_bytes, printing_number}
use Rattle.grammar.specs.Promises.{Translates, Prints, MeasuresText}
use Rattle.grammar.specs.declared.Line.{Line}
use Rattle.grammar.specs.declared.Refusal.{Refusal}
use Rattle.grammar.specs.declared.Text.{Text}
use Rattle.kernel_c.specs.Promises.{TranslatesC, NamesLineC, PrintsC, MeasuresTextC}
use Rattle.kernel_c.specs.declared.prints.Printed.{Printed}
use Rattle.kernel_c.specs.declared.scripts.Translated.{Translated}
use Rattle.kernel_c.specs.declared.scripts.RefusedLine.{RefusedLine}

-- a refused translation, in numbers
module _ (answer : Result ℕ (Refusal × Text)) (r : Refusal) (t : Text) (e : answer ≡ Err (r, t)) where
  pub no_words : 0 ≡ translation_words answer
  no_words = rw e

  pub refusal_number : (n : ℕ) → n ≡ number r → n ≡ translation_number answer
  refusal_number n en = rw e en

  pub refusal_text : (n : ℕ) → n ≡ text_number t → n ≡ translation_text answer
  refusal_text n et = rw e et

-- translating two texts
pub translates_is : (names script target : List ℕ) (told : Result ℕ (Refusal × Text)) (answer : Translated) (after : List ℕ) → Translates names script target told after
    → answer.words ≡ translation_words told → answer.number ≡ translation_number told → answer.text ≡ translation_text told → TranslatesC names script target answer after
translates_is names script target told answer after p ew en et =
    record { counted = ew ∙ p.counted; numbered = en ∙ p.numbered; told = et ∙ p.told; left = p.left }

-- the refused line
pub names_line_is : (names script : List ℕ) (room : ℕ) (j : Result ℕ (Refusal × Line)) (answer : RefusedLine) → j ≡ judged names script room
    → answer.start ≡ (named_line j).from → answer.bytes ≡ (named_line j).count → NamesLineC names script room answer
names_line_is names script room j answer e es eb =
    record { begins = es ∙ ap (λ (k : Result ℕ (Refusal × Line)). (named_line k).from) e; counted = eb ∙ ap (λ (k : Result ℕ (Refusal × Line)). (named_line k).count) e }

-- printing a list of words
pub prints_is : (words text : List ℕ) (told : Result ℕ Refusal) (answer : Printed) (after : List ℕ) → Prints words text told after
    → answer.bytes ≡ printing_bytes told → answer.number ≡ printing_number told → PrintsC words text answer after
prints_is words text told answer after p eb en = record { counted = eb ∙ p.counted; numbered = en ∙ p.numbered; left = p.left }

-- how many bytes printing a list needs
pub measures_text_is : (words : List ℕ) (told : Result ℕ Refusal) (answer : Printed) → MeasuresText words told
    → answer.bytes ≡ printing_bytes told → answer.number ≡ printing_number told → MeasuresTextC words answer
measures_text_is words told answer p eb en = record { counted = eb ∙ p.counted; numbered = en ∙ p.numbered }

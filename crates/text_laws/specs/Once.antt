-- Any two outcomes that a promise permits are equal. Assumes nothing.
use Rattle.std.specs.Prelude.{◌≡◌, List, ℕ, Result}
use Rattle.std.proofs.Common.{sym, ◌∙◌}
use Rattle.std.specs.Borrow.{Bor}
use Rattle.grammar.specs.Promises.{Translates, NamesLine, Prints, MeasuresText}
use Rattle.grammar.specs.declared.Refusal.{Refusal}
use Rattle.grammar.specs.declared.Text.{Text}

-- translating two texts: the answer and every word of the target
pub translates_once : (names script target : List ℕ) (a b : Result ℕ (Refusal × Text)) (x y : List ℕ)
    → Translates names script target a x → Translates names script target b y → (a ≡ b) × (x ≡ y)
translates_once names script target a b x y p q = (p.answers ∙ sym q.answers, p.left ∙ sym q.left)

-- the refused line: its bytes, and where they stand in memory
pub names_line_once : (names script : Bor (List ℕ)) (room : ℕ) (x y : Bor (List ℕ)) → NamesLine names script room x → NamesLine names script room y
    → (x.now ≡ y.now) × (x.ref_ptr.0 ≡ y.ref_ptr.0) × (x.ref_ptr.1 ≡ y.ref_ptr.1)
names_line_once names script room x y p q =
    (p.named.bytes ∙ sym q.named.bytes, p.named.block ∙ sym q.named.block, p.named.place ∙ sym q.named.place)

-- printing a list: the answer and every byte of the buffer
pub prints_once : (words buffer : List ℕ) (a b : Result ℕ Refusal) (x y : List ℕ) → Prints words buffer a x → Prints words buffer b y → (a ≡ b) × (x ≡ y)
prints_once words buffer a b x y p q = (p.answers ∙ sym q.answers, p.left ∙ sym q.left)

-- how many bytes that needs
pub measures_text_once : (words : List ℕ) (a b : Result ℕ Refusal) → MeasuresText words a → MeasuresText words b → a ≡ b
measures_text_once words a b p q = p.answers ∙ sym q.answers

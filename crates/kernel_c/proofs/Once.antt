-- Any two outcomes that a promise of an exported function permits are equal. Assumes nothing.
use mathlib.Core.Path.{◌≡◌, sym, ◌∙◌, ap}
use mathlib.Core.List.{List}
use Prim.Native.Nat.{ℕ}
use lib.Ieee.{Float}
use Rattle.kernel_c.specs.Promises.{ChecksC, MeasuresC, BuildsC, HappensC, RunsC, ReportsC, SharesC, TranslatesC, NamesLineC, PrintsC, MeasuresTextC, LooksAtTaskC, LooksAtPortC, LooksAtRegisterC, LooksAtLengthC, LooksAtWordC, TellsBrokenC}
use Rattle.kernel_c.specs.declared.Measured.{Measured}
use Rattle.kernel_c.specs.declared.ReplyNumbers.{ReplyNumbers}
use Rattle.kernel_c.specs.declared.RunNumbers.{RunNumbers}
use Rattle.kernel_c.specs.declared.prints.Printed.{Printed}
use Rattle.kernel_c.specs.declared.scripts.Translated.{Translated}
use Rattle.kernel_c.specs.declared.scripts.RefusedLine.{RefusedLine}
use Rattle.kernel_c.specs.declared.looks.TaskNumbers.{TaskNumbers}
use Rattle.kernel_c.specs.declared.looks.PortNumbers.{PortNumbers}
use Rattle.kernel_c.specs.declared.looks.WordNumbers.{WordNumbers}
use Rattle.kernel_c.specs.declared.broken.BrokenNumbers.{BrokenNumbers}

-- checking an image
pub checks_c_once : (image : List ℕ) (a b : ℕ) → ChecksC image a → ChecksC image b → a ≡ b
checks_c_once image a b p q = p.numbered ∙ sym q.numbered

-- the size of a plan: words and number
measured_same : (a b : Measured) → a.words ≡ b.words → a.number ≡ b.number → a ≡ b
measured_same a b ew en =
    let again : ℕ → ℕ → Measured = λ w n. record { words = w; number = n } in
    ap (λ w. again w a.number) ew ∙ ap (again b.words) en

pub measures_c_once : (plan : List ℕ) (a b : Measured) → MeasuresC plan a → MeasuresC plan b → a ≡ b
measures_c_once plan a b p q = measured_same a b (p.valued ∙ sym q.valued) (p.numbered ∙ sym q.numbered)

-- building: the number and every word of the target
pub builds_c_once : (plan target : List ℕ) (a b : ℕ) (x y : List ℕ) → BuildsC plan target a x → BuildsC plan target b y → (a ≡ b) × (x ≡ y)
builds_c_once plan target a b x y p q = (p.numbered ∙ sym q.numbered, p.left ∙ sym q.left)

-- one event: number, kind, task and every word of the image
told_same : (a b : ReplyNumbers) → a.number ≡ b.number → a.kind ≡ b.kind → a.task ≡ b.task → a ≡ b
told_same a b en ek et =
    let again : ℕ → ℕ → ℕ → ReplyNumbers = λ n k t. record { number = n; kind = k; task = t } in
    ap (λ n. again n a.kind a.task) en ∙ ap (λ k. again b.number k a.task) ek ∙ ap (again b.number b.kind) et

pub happens_c_once : (image : List ℕ) (k d c : ℕ) (a b : ReplyNumbers) (x y : List ℕ) → HappensC image k d c a x → HappensC image k d c b y → (a ≡ b) × (x ≡ y)
happens_c_once image k d c a b x y p q =
    (told_same a b (p.numbered ∙ sym q.numbered) (p.kinded ∙ sym q.kinded) (p.tasked ∙ sym q.tasked), p.left ∙ sym q.left)

-- a run: how many events were taken, the number, and every word of the image
ran_same : (a b : RunNumbers) → a.taken ≡ b.taken → a.number ≡ b.number → a ≡ b
ran_same a b et en =
    let again : ℕ → ℕ → RunNumbers = λ t n. record { taken = t; number = n } in
    ap (λ t. again t a.number) et ∙ ap (again b.taken) en

pub runs_c_once : (image events : List ℕ) (a b : RunNumbers) (x y : List ℕ) → RunsC image events a x → RunsC image events b y → (a ≡ b) × (x ≡ y)
runs_c_once image events a b x y p q =
    (ran_same a b (p.counted ∙ sym q.counted) (p.numbered ∙ sym q.numbered), p.left ∙ sym q.left)

-- a run that counts: the same, and every count
pub reports_c_once : (image events counts : List ℕ) (a b : RunNumbers) (x y m n : List ℕ) → ReportsC image events counts a x m → ReportsC image events counts b y n → (a ≡ b) × (x ≡ y) × (m ≡ n)
reports_c_once image events counts a b x y m n p q =
    (ran_same a b (p.counted ∙ sym q.counted) (p.numbered ∙ sym q.numbered), p.left ∙ sym q.left, p.tallied ∙ sym q.tallied)

-- a share: whether it is told, and the cell for it
pub shares_c_once : (counts : List ℕ) (task : ℕ) (held : Float) (a b : ℕ) (x y : Float) → SharesC counts task held a x → SharesC counts task held b y → (a ≡ b) × (x ≡ y)
shares_c_once counts task held a b x y p q = (p.numbered ∙ sym q.numbered, p.left ∙ sym q.left)

-- a translation: how many words there are, the number, the text, and every word of the target
translated_same : (a b : Translated) → a.words ≡ b.words → a.number ≡ b.number → a.text ≡ b.text → a ≡ b
translated_same a b ew en et =
    let again : ℕ → ℕ → ℕ → Translated = λ w n t. record { words = w; number = n; text = t } in
    ap (λ w. again w a.number a.text) ew ∙ ap (λ n. again b.words n a.text) en ∙ ap (again b.words b.number) et

pub translates_c_once : (names script target : List ℕ) (a b : Translated) (x y : List ℕ) → TranslatesC names script target a x → TranslatesC names script target b y → (a ≡ b) × (x ≡ y)
translates_c_once names script target a b x y p q =
    (translated_same a b (p.counted ∙ sym q.counted) (p.numbered ∙ sym q.numbered) (p.told ∙ sym q.told), p.left ∙ sym q.left)

-- the refused line: where it begins, and its bytes
line_same : (a b : RefusedLine) → a.start ≡ b.start → a.bytes ≡ b.bytes → a ≡ b
line_same a b es eb =
    let again : ℕ → ℕ → RefusedLine = λ s n. record { start = s; bytes = n } in
    ap (λ s. again s a.bytes) es ∙ ap (again b.start) eb

pub names_line_c_once : (names script : List ℕ) (room : ℕ) (a b : RefusedLine) → NamesLineC names script room a → NamesLineC names script room b → a ≡ b
names_line_c_once names script room a b p q = line_same a b (p.begins ∙ sym q.begins) (p.counted ∙ sym q.counted)

-- a print: how many bytes there are, the number, and every byte of the buffer
printed_same : (a b : Printed) → a.bytes ≡ b.bytes → a.number ≡ b.number → a ≡ b
printed_same a b eb en =
    let again : ℕ → ℕ → Printed = λ c n. record { bytes = c; number = n } in
    ap (λ c. again c a.number) eb ∙ ap (again b.bytes) en

pub prints_c_once : (words text : List ℕ) (a b : Printed) (x y : List ℕ) → PrintsC words text a x → PrintsC words text b y → (a ≡ b) × (x ≡ y)
prints_c_once words text a b x y p q = (printed_same a b (p.counted ∙ sym q.counted) (p.numbered ∙ sym q.numbered), p.left ∙ sym q.left)

-- how many bytes a print needs, and the number
pub measures_text_c_once : (words : List ℕ) (a b : Printed) → MeasuresTextC words a → MeasuresTextC words b → a ≡ b
measures_text_c_once words a b p q = printed_same a b (p.counted ∙ sym q.counted) (p.numbered ∙ sym q.numbered)

-- looking into an image: the number and every field
pub looks_at_task_c_once : (image : List ℕ) (t : ℕ) (a b : TaskNumbers) → LooksAtTaskC image t a → LooksAtTaskC image t b → a ≡ b
looks_at_task_c_once image t a b p q = p.told ∙ sym q.told

pub looks_at_port_c_once : (image : List ℕ) (d : ℕ) (a b : PortNumbers) → LooksAtPortC image d a → LooksAtPortC image d b → a ≡ b
looks_at_port_c_once image d a b p q = p.told ∙ sym q.told

pub looks_at_register_c_once : (image : List ℕ) (t r : ℕ) (a b : WordNumbers) → LooksAtRegisterC image t r a → LooksAtRegisterC image t r b → a ≡ b
looks_at_register_c_once image t r a b p q = p.told ∙ sym q.told

pub looks_at_length_c_once : (image : List ℕ) (q i j : ℕ) (a b : WordNumbers) → LooksAtLengthC image q i j a → LooksAtLengthC image q i j b → a ≡ b
looks_at_length_c_once image q i j a b x y = x.told ∙ sym y.told

pub looks_at_word_c_once : (image : List ℕ) (q i j k : ℕ) (a b : WordNumbers) → LooksAtWordC image q i j k a → LooksAtWordC image q i j k b → a ≡ b
looks_at_word_c_once image q i j k a b x y = x.told ∙ sym y.told

-- the first broken rule: the number and every field
pub tells_broken_c_once : (image : List ℕ) (a b : BrokenNumbers) → TellsBrokenC image a → TellsBrokenC image b → a ≡ b
tells_broken_c_once image a b p q = p.told ∙ sym q.told

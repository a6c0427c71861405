-- Any two outcomes that a promise permits are equal. Assumes nothing.
use Rattle.std.specs.Prelude.{◌≡◌, List, ℕ, Float, Option, Result, ⊤}
use Rattle.std.proofs.Common.{sym, ◌∙◌, ap}
use Rattle.paper.specs.Promises.{Checks, Measures, Builds, Happens, Runs, Reports, Shares}
use Rattle.paper.specs.declared.Ended.{Ended}
use Rattle.paper.specs.declared.Answer.{Answer}
use Rattle.paper.specs.declared.Refusal.{Refusal}

-- checking an image
pub checks_once : (image : List ℕ) (a b : ℕ) → Checks image a → Checks image b → a ≡ b
checks_once image a b p q = p.answered ∙ sym q.answered

-- the size of a plan
pub measures_once : (plan : List ℕ) (a b : Result ℕ Refusal) → Measures plan a → Measures plan b → a ≡ b
measures_once plan a b p q = p.answered ∙ sym q.answered

-- building: the answer and every word of the target
pub builds_once : (plan target : List ℕ) (a b : ℕ) (x y : List ℕ) → Builds plan target a x → Builds plan target b y → (a ≡ b) × (x ≡ y)
builds_once plan target a b x y p q = (p.answered ∙ sym q.answered, p.left ∙ sym q.left)

-- one event: the answer and every word of the image
pub happens_once : (image : List ℕ) (k d c : ℕ) (a b : Result Answer Refusal) (x y : List ℕ) → Happens image k d c a x → Happens image k d c b y → (a ≡ b) × (x ≡ y)
happens_once image k d c a b x y p q = (p.answered ∙ sym q.answered, p.left ∙ sym q.left)

-- a run: how many events were taken, what stopped it, and every word of the image
ended_same : (a b : Ended) → a.taken ≡ b.taken → a.stop ≡ b.stop → a ≡ b
ended_same a b et es =
    let again : ℕ → Result ⊤ Refusal → Ended = λ t v. record { taken = t; stop = v } in
    ap (λ t. again t a.stop) et ∙ ap (again b.taken) es

pub runs_once : (image events : List ℕ) (a b : Ended) (x y : List ℕ) → Runs image events a x → Runs image events b y → (a ≡ b) × (x ≡ y)
runs_once image events a b x y p q =
    (ended_same a b (p.counted ∙ sym q.counted) (p.stopped ∙ sym q.stopped), p.left ∙ sym q.left)

-- a run that counts: the same, and every count
pub reports_once : (image events counts : List ℕ) (a b : Ended) (x y m n : List ℕ) → Reports image events counts a x m → Reports image events counts b y n → (a ≡ b) × (x ≡ y) × (m ≡ n)
reports_once image events counts a b x y m n p q =
    (ended_same a b (p.counted ∙ sym q.counted) (p.stopped ∙ sym q.stopped), p.left ∙ sym q.left, p.tallied ∙ sym q.tallied)

-- a task's share
pub shares_once : (counts : List ℕ) (task : ℕ) (a b : Option Float) → Shares counts task a → Shares counts task b → a ≡ b
shares_once counts task a b p q = p.answered ∙ sym q.answered

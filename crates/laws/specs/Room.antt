-- A task that is not ready finds room in the ready queue. Assumes nothing.
use Rattle.std.specs.Prelude.{◌≡◌, refl, List, [], ◌∷◌, Bool, false, ◌≢◌, ℕ, zero, suc, ◌+◌, ◌<◌, ◌≤◌, length}
use Rattle.std.proofs.Common.{sym, ◌∙◌, arith}
use Rattle.std.proofs.Math.Logic.{dite}
use Rattle.std.proofs.Math.Decide.{ℕ_discrete, dec_lt}
use borrow.Author.Tests.{eq-eqb, ne_eqb}
use Rattle.paper.specs.Image.{at, status}
use Rattle.paper.specs.Queues.{held, full}
use Rattle.paper.specs.Flags.{is_ready, waits, is_stopped}
use Rattle.paper.specs.Rules.{times, Ready, Good}
use Rattle.paper.specs.declared.Task.{Task}
use Rattle.paper.specs.declared.Shape.{Shape}
use Rattle.paper.specs.declared.Part.{Part}
use Rattle.paper.specs.declared.Queue.{Queue}
use Rattle.paper.specs.declared.Service.{Service}
use Rattle.laws.specs.Frame.{Apart, kept_status, kept_full}

-- how often the numbers below n stand in a list, all together
abbrev together : ℕ → List ℕ → ℕ
together zero ws = 0
together (suc n) ws = together n ws + times n ws

together_none : (n : ℕ) → together n [] ≡ 0
together_none zero = refl
together_none (suc n) = rw (together_none n)

-- a word more at the front is one more of them, where it is below n
together_more : (n w : ℕ) (ws : List ℕ) → (w < n → together n (w ∷ ws) ≡ suc (together n ws)) × (n ≤ w → together n (w ∷ ws) ≡ together n ws)
together_more zero w ws = (λ h. omega arith, λ h. refl)
together_more (suc n) w ws =
    let h = together_more n w ws in
    dite (ℕ_discrete n w)
    (λ e. (λ _. rw (eq-eqb n w e) (omega (arith, h.1 (omega arith))), λ l. omega arith))
    (λ ne. (λ l. rw (ne_eqb n w ne) (omega (arith, h.0 (omega arith))), λ l. rw (ne_eqb n w ne) (omega (arith, h.1 (omega arith)))))

-- so of a list of numbers below n they are all words
together_all : (n : ℕ) (ws : List ℕ) → ((x : ℕ) → n ≤ x → times x ws ≡ 0) → together n ws ≡ length ws
together_all n [] below = together_none n
together_all n (w ∷ ws) below =
    let low : w < n = dite (dec_lt w n) (λ h. h) (λ h.
    let none : 1 + times w ws ≡ 0 = rw (eq-eqb w w refl) at (below w (omega arith)) in
    omega arith) in
    (together_more n w ws).0 low ∙ rw (together_all n ws (λ x h. omega (arith, below x h)))

-- where none stands there twice they are at most n, and fewer where one is missing
together_few : (n : ℕ) (ws : List ℕ) → ((x : ℕ) → times x ws ≤ 1) → (together n ws ≤ n) × ((k : ℕ) → k < n → times k ws ≡ 0 → together n ws < n)
together_few zero ws once = (omega arith, λ k h e. omega arith)
together_few (suc n) ws once =
    let h = together_few n ws once in (
      omega (arith, h.0, once n),
      λ k l e.
          dite (ℕ_discrete k n) (λ same. omega (arith, h.0, rw same at e)) (λ ne. omega (arith, h.1 k (omega arith) e, once n)),
    )

-- THE COUNT: a list of numbers below n, without repeats, that leaves one of them out has fewer than n words
pub fewer : (n : ℕ) (ws : List ℕ) → ((x : ℕ) → n ≤ x → times x ws ≡ 0) → ((x : ℕ) → times x ws ≤ 1) → (k : ℕ) → k < n → times k ws ≡ 0 → length ws < n
fewer n ws below once k h none = rw (← together_all n ws below) ((together_few n ws once).1 k h none)

-- the ready queue holds each task of status 0 exactly once, and no other
abbrev pub Listed : Shape → List ℕ → Type 0
Listed s im = (i : Task) → (Ready s im i → times i.0 (held s im Queue.Ready) ≡ 1) × (¬ Ready s im i → times i.0 (held s im Queue.Ready) ≡ 0)

module _ (s : Shape) (im : List ℕ) (l : Listed s im) where
  -- so a task that is not ready does not stand in it
  module _ (i : Task) (hi : i.0 < s.n) (ne : at s im (status i) ≢ is_ready) where
    pub listed_none : times i.0 (held s im Queue.Ready) ≡ 0
    listed_none = (l i).1 (λ r. ne r.1)

-- a task that is not ready finds room; shut, as contracts say it
unfoldable pub Roomy : Shape → List ℕ → Type 0
Roomy s im = (i : Task) → i.0 < s.n → at s im (status i) ≢ is_ready → full s im Queue.Ready ≡ false

pub finds_room : (s : Shape) (im : List ℕ) → Roomy s im → (i : Task) → i.0 < s.n → at s im (status i) ≢ is_ready → full s im Queue.Ready ≡ false
unfolding Roomy
finds_room s im r = r

-- it does where statuses and the ready queue are as they were
pub kept_roomy : {s : Shape} (P : Part → Bool) {im m : List ℕ} → Apart s P im m → P Part.StatusTable ≡ false → P Part.ReadyQueue ≡ false → Roomy s im → Roomy s m
unfolding Roomy
kept_roomy P a f g r i hi n = kept_full P a Queue.Ready tt g ∙ r i hi (λ e. n (kept_status P a f i hi ∙ e))

-- a status that waits is neither ready nor stopped
pub waits_between : (v : Service) → (is_ready < waits v) × (waits v < is_stopped)
waits_between Service.Send = (omega arith, omega arith)
waits_between Service.Receive = (omega arith, omega arith)
waits_between Service.Input = (omega arith, omega arith)
waits_between Service.Output = (omega arith, omega arith)

pub waits_not : (v : Service) → is_ready ≢ waits v
waits_not v e = omega (arith, waits_between v)

pub waits_on : (v : Service) → is_stopped ≢ waits v
waits_on v e = omega (arith, waits_between v)

-- so a task that waits finds room
pub waiting_room : (s : Shape) (im : List ℕ) → Roomy s im → (i : Task) → i.0 < s.n → (v : Service) → at s im (status i) ≡ waits v → full s im Queue.Ready ≡ false
waiting_room s im r i hi v e = finds_room s im r i hi (λ z. waits_not v (sym z ∙ e))

-- a good image is such
pub good_listed : {s : Shape} {im : List ℕ} → Good s im → Listed s im
good_listed g i = (g.ready i, g.no_other i)

-- What an accepted event does to the ready queue and to what the first task can still use; the services, told apart. Assumes nothing.
use Rattle.std.specs.Prelude.{◌≡◌, Bool, false, ◌||◌, ◌≢◌, ◌⊎◌, ℕ, ◌+◌, ◌<◌, ◌≤◌, Err, Ok, Result, Some}
use Rattle.std.proofs.Math.Path.{refl, sym}
use Rattle.std.proofs.Common.{◌∙◌, inl}
use mathlib.Core.List.{List, [], ◌∷◌, ◌++◌, append-nil}
use native.Mathlib.Omega.{arith}
use Rattle.paper.specs.Image.{at, clock, flags}
use Rattle.paper.specs.Queues.{taken, held, empty}
use Rattle.paper.specs.Flags.{flags_of, error, cc as condition}
use Rattle.paper.specs.Waking.{Answered, with_status, woken, left}
use Rattle.paper.specs.Services.{fault_of, service_faulted, waiting}
use Rattle.paper.specs.Events.{event_of, running, turned}
use Rattle.paper.specs.Rules.{Good}
use Rattle.paper.specs.Numbers.{kind, answer_task}
use Rattle.paper.specs.declared.Task.{Task}
use Rattle.paper.specs.declared.Shape.{Shape}
use Rattle.paper.specs.declared.Part.{Part}
use Rattle.paper.specs.declared.Queue.{Queue}
use Rattle.paper.specs.declared.Service.{Service}
use Rattle.paper.specs.declared.Event.{Event}
use Rattle.paper.specs.declared.Answer.{Answer}
use Rattle.paper.specs.declared.Refusal.{Refusal}
use Rattle.laws.specs.Cells.{at_same}
use Rattle.laws.specs.Sound.{Sound, sound}
use Rattle.laws.specs.Effects.{fields}
use Rattle.laws.specs.Checked.{good_sound}
use Rattle.laws.specs.Events.{words_any}
use Rattle.laws.specs.Frame.{Apart, frame_none, frame_put, kept_clock, kept_empty}
use Rattle.laws.specs.Changes.{header_part, moved_parts, small_error}
use Rattle.event_laws.specs.Own.{own_parts}
use Rattle.event_laws.specs.Turns.{joined_clock, Leads, leads_sound, leads_in, leads_list, left_list, turned_list}
use Rattle.event_laws.specs.Serving.{served_nearly, wakes_whom}
use Rattle.event_laws.specs.Walk.{ServiceCases, Begins}
use Rattle.event_laws.proofs.Stays.{begins_leads, served_apart, first_leads}
use Rattle.event_laws.specs.First.{KeepsPlace}
use Rattle.event_laws.proofs.First.{faulted_keeps, served_keeps, served_woke, begins_held, begins_keeps}
use Rattle.bound.specs.Bound.{tick_count}

-- the first task is gone from its place: every other one moved up
pub record LeavesPlace (s : Shape) (im m : List ℕ) : Type 0 where
  pub leader : ℕ
  pub others : List ℕ
  pub joined : List ℕ
  pub was : held s im Queue.Ready ≡ leader ∷ others
  pub now : held s m Queue.Ready ≡ others ++ joined

module _ {s : Shape} {im : List ℕ} {i : Task} (l : Leads s im i) where
  pub left_leaves : (k p : ℕ) → LeavesPlace s im (left s (with_status s im i k p))
  left_leaves k p = record { leader = i.0; others = held s _ Queue.Ready; joined = []; was = left_list l k p; now = sym (append-nil _) }

  pub turned_leaves : LeavesPlace s im (turned s im i)
  turned_leaves = record { leader = i.0; others = held s (taken s im Queue.Ready) Queue.Ready; joined = i.0 ∷ []; was = leads_list l; now = turned_list l }

-- also from the image that a service begins from
begins_leaves : {s : Shape} {im m o : List ℕ} → Begins s im m → Sound s im → LeavesPlace s m o → LeavesPlace s im o
begins_leaves b lies k = record { leader = k.leader; others = k.others; joined = k.joined; was = sym (begins_held b lies) ∙ k.was; now = k.now }

-- it keeps its place, and the clock falls by the ticks used
abbrev pub Stays : Shape → List ℕ → List ℕ → ℕ → Type 0
Stays s im m used = KeepsPlace s im m × (used + at s m clock ≡ at s im clock)

-- what an event does to the first task, as the reply tells: it uses so many ticks, 1 or none, and leaves the last image
pub data Step (s : Shape) (im : List ℕ) : ℕ → Result Answer Refusal → List ℕ → Type 0 where
  stops : {m : List ℕ} → LeavesPlace s im m → Step s im 1 (Ok (Answer.ErrorStop (running s im))) m
  passes : {m : List ℕ} → error s im (running s im) ≡ 0 → at s im clock ≡ 0 → LeavesPlace s im m → Step s im 1 (Ok (Answer.TurnPassed (running s im))) m
  waits : {m : List ℕ} → error s im (running s im) ≡ 0 → at s im clock ≢ 0 → LeavesPlace s im m → Step s im 1 (Ok (Answer.ServiceWaits (running s im))) m
  -- a service or an order done
  does : {m : List ℕ} {a : Answer} → error s im (running s im) ≡ 0 → (kind a ≡ 3) ⊎ (kind a ≡ 6) → answer_task a ≡ (running s im).0 → Stays s im m 1
      → Step s im 1 (Ok a) m
  -- a service or an order faulted
  faults : {m : List ℕ} {a : Answer} → error s im (running s im) ≡ 0 → (kind a ≡ 5) ⊎ (kind a ≡ 7) → answer_task a ≡ (running s im).0 → Stays s im m 1
      → error s m (running s im) ≢ 0 → Step s im 1 (Ok a) m
  -- an event of a device
  device : {m : List ℕ} {a : Answer} → 8 ≤ kind a → Stays s im m 0 → error s m (running s im) ≡ error s im (running s im) → Step s im 0 (Ok a) m
  refused : (r : Refusal) → Step s im 0 (Err r) im

-- and so a tick, which is accepted
abbrev pub TickStep : Shape → List ℕ → Answered → Type 0
TickStep s im t = Step s im 1 (Ok t.answer) t.image

-- the parts that an order changes, the clock with it
abbrev pub order_parts : Part → Bool
order_parts p = own_parts p || header_part p

-- how many of the ticks that the first task can use an event is
abbrev pub uses : Event → ℕ
uses Event.Tick = 1
uses (Event.Input i c) = 0
uses (Event.OutputDone i) = 0
uses Event.Malformed = 0

pub uses_count : (s : Shape) (k d c : ℕ) → tick_count k d c ≡ uses (event_of s k d c)
uses_count s k d c = words_any s k d c (λ e. tick_count k d c ≡ uses e) (λ t. rw t) (λ f _ _. rw f) (λ f _. rw f) (λ f. rw f)

-- a word moved and a task woken, where the ready queue is not empty: no dispatch
pub woke_clock : {s : Shape} {im m : List ℕ} → Apart s moved_parts im m → Sound s m → (k : Task) → k.0 < s.n → empty s im Queue.Ready ≡ false → at s (woken s m k) clock ≡ at s im clock
unfolding woken
woke_clock {s} {im} {m} a h k hk some = rw (kept_empty moved_parts a Queue.Ready tt refl ∙ some) (joined_clock s m k hk h ∙ kept_clock moved_parts a refl)

-- a service that does not wait leaves the clock that it began with
module _ {s : Shape} {im : List ℕ} {i : Task} (l : Leads s im i) (v : Service) where
  faulted_error : (e : ℕ) → fault_of s im i v ≡ Some e → error s (service_faulted s im i e) i ≢ 0
  unfolding service_faulted
  faulted_error e f z =
      let range = small_error s im i v e f in
      let is = at_same s im (flags i) (flags_of (condition s im i) e 0) (leads_in l, omega arith) (sound (leads_sound l)).laid.words in
      let low : condition s im i ≤ 3 = omega arith in
      omega (arith, range, sym (rw is at z) ∙ (fields (condition s im i) e 0 low (omega (arith, range))).1)

  faulted_clock : (e : ℕ) → at s (service_faulted s im i e) clock ≡ at s im clock
  unfolding service_faulted
  faulted_clock e = kept_clock own_parts (frame_put frame_none (flags i) _ (leads_in l, omega arith) refl) refl

-- an event on a good image, its ready queue not empty; i is the first task
module _ (s : Shape) (im : List ℕ) (g : Good s im) (some : empty s im Queue.Ready ≡ false) where
  abbrev i : Task
  i = running s im

  l : Leads s im i
  l = first_leads s im g some

  -- rule 4: the clock falls by 1 before the service
  pub service_steps : error s im i ≡ 0 → at s im clock ≢ 0 → (v : Service) → (m : List ℕ) → Begins s im m → ServiceCases s m i v (TickStep s im)
  unfolding waiting
  service_steps calm runs v m b =
      let here = begins_leads l b in
      record {
        faults = λ e f. Step.faults calm (inl refl) refl (stays (faulted_keeps here e) (faulted_clock here v e)) (faulted_error here v e f);
        stuck = λ _ _. Step.waits calm runs (begins_leaves b (good_sound s im g) (left_leaves here _ _));
        alone = λ right clear _. Step.does calm (inl refl) refl (stays (served_keeps here v right clear) (kept_clock moved_parts (served_apart here v right clear) refl));
        woke = λ k right clear one.
            let w = wakes_whom here v right k one in
            Step.does calm (inl refl) refl
            (stays (served_woke here v right clear k one) (woke_clock (served_apart here v right clear) (served_nearly here v right clear).lies k w.0 here.some));
      }
    where
      stays : {o : List ℕ} → KeepsPlace s m o → at s o clock ≡ at s m clock → Stays s im o 1
      stays k c = (begins_keeps b (good_sound s im g) k, omega (arith, runs, c, b.clock_is (good_sound s im g)))

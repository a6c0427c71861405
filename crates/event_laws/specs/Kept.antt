-- A good image, but for a task that is about to be woken; what parts that are as they were keep of it. Assumes nothing.
use Rattle.std.specs.Prelude.{◌≡◌, List, Bool, false, ℕ, ◌<◌, ◌≤◌, None, Option, Some}
use Rattle.std.proofs.Common.{sym, ◌∙◌}
use Rattle.paper.specs.Image.{at, clock, flags, status}
use Rattle.paper.specs.Queues.{part_of, Has, held, free}
use Rattle.paper.specs.Flags.{waits}
use Rattle.paper.specs.Rules.{Flagged, Empty, Characters, Zeros, Ported, Stands, Good}
use Rattle.paper.specs.declared.Task.{Task}
use Rattle.paper.specs.declared.Shape.{Shape}
use Rattle.paper.specs.declared.Part.{Part}
use Rattle.paper.specs.declared.Queue.{Queue}
use Rattle.paper.specs.declared.Service.{Service}
use Rattle.laws.specs.Sound.{Sound, shut, sound}
use Rattle.laws.specs.Frame.{Apart, Same, kept_clock, kept_status, kept_count, kept_held, kept_free, kept_port}
use Rattle.laws.specs.Room.{Listed, good_listed}
use Rattle.event_laws.specs.Standing.{awaits, stands_frame}

-- the task that an event is about to wake
abbrev pub Spared : Option Task → Task → Type 0
Spared None i = ⊥
Spared (Some j) i = i.0 ≡ j.0

-- the words that a queue may hold
abbrev pub Chars : Shape → List ℕ → Queue → Type 0
Chars s im Queue.Ready = Unit {0}
Chars s im (Queue.Input i) = Characters (held s im (Queue.Input i))
Chars s im (Queue.Output i) = Characters (held s im (Queue.Output i))
Chars s im (Queue.Message i j) = Unit {0}

-- clock at most S; 0 where the ready queue is empty
abbrev pub Clocked : Shape → List ℕ → Type 0
Clocked s im = (at s im clock ≤ s.slice) × (Empty s im Queue.Ready → at s im clock ≡ 0)

-- a good image, but for the status of a task that is about to be woken
pub record Nearly (s : Shape) (im : List ℕ) (w : Option Task) : Type 0 where
  pub lies : Sound s im
  pub flags : (i : Task) → i.0 < s.n → Flagged s im i
  pub chars : (q : Queue) → Has s q → Chars s im q
  pub cleared : (q : Queue) → Has s q → Zeros (free s im q)
  pub listed : Listed s im
  pub clocked : Clocked s im
  pub ports : (i : Task) → i.0 < s.n → Ported s im i
  pub statuses : (i : Task) → i.0 < s.n → ¬ Spared w i → Stands s im i

pub good_nearly : {s : Shape} {im : List ℕ} → Good s im → Nearly s im None
good_nearly {s} {im} g =
    record {
      lies = shut record { laid = g.laid; queues = g.queues };
      flags = g.flags;
      chars = chars;
      cleared = g.cleared;
      listed = good_listed g;
      clocked = (g.clock_range, g.clock_idle);
      ports = g.ports;
      statuses = λ i hi _. g.statuses i hi;
    }
  where
    chars : (q : Queue) → Has s q → Chars s im q
    chars Queue.Ready h = tt
    chars (Queue.Input i) h = g.inputs_held i h
    chars (Queue.Output i) h = g.outputs_held i h
    chars (Queue.Message i j) h = tt

pub nearly_good : {s : Shape} {im : List ℕ} → Nearly s im None → Good s im
nearly_good h =
    record {
      laid = (sound h.lies).laid;
      flags = h.flags;
      queues = (sound h.lies).queues;
      cleared = h.cleared;
      inputs_held = λ i hi. h.chars (Queue.Input i) hi;
      outputs_held = λ i hi. h.chars (Queue.Output i) hi;
      ready = λ i. (h.listed i).0;
      no_other = λ i. (h.listed i).1;
      clock_range = h.clocked.0;
      clock_idle = h.clocked.1;
      ports = h.ports;
      statuses = λ i hi. h.statuses i hi (λ e. e);
    }

-- the buffer that a task waits on is one of this image
pub awaits_has : (s : Shape) (im : List ℕ) (i : Task) → i.0 < s.n → Stands s im i → (v : Service) → at s im (status i) ≡ waits v → Has s (awaits s im i v)
awaits_has s im i hi h Service.Send e = (hi, (h.sends e).1.1)
awaits_has s im i hi h Service.Receive e = ((h.receives e).1.1, hi)
awaits_has s im i hi h Service.Input e = hi
awaits_has s im i hi h Service.Output e = hi

-- where buffers are as they were, a task stands whose own words are
module _ {s : Shape} (P : Part → Bool) {im m : List ℕ} (a : Apart s P im m) (inputs : P Part.InputBuffers ≡ false) (outputs : P Part.OutputBuffers ≡ false)
    (messages : P Part.MessageBuffers ≡ false) where
  buffer_unpicked : (i : Task) (v : Service) → P (part_of (awaits s im i v)) ≡ false
  buffer_unpicked i Service.Send = messages
  buffer_unpicked i Service.Receive = messages
  buffer_unpicked i Service.Input = inputs
  buffer_unpicked i Service.Output = outputs

  pub kept_stands : (i : Task) → i.0 < s.n → Same s im m i → Stands s im i → Stands s m i
  kept_stands i hi e st =
      stands_frame s im m i e (λ v f. kept_count P a (awaits s im i v) (awaits_has s im i hi st v f) (buffer_unpicked i v)) st

  -- so where ports are too, the image is as good as its flags, ready queue, clock and statuses
  module _ (ports : P Part.Ports ≡ false) {w : Option Task} (h : Nearly s im w) where
    kept_chars : (q : Queue) → Has s q → Chars s m q
    kept_chars Queue.Ready hq = tt
    kept_chars (Queue.Input i) hq = rw (kept_held P a (Queue.Input i) hq inputs h.lies) (h.chars (Queue.Input i) hq)
    kept_chars (Queue.Output i) hq = rw (kept_held P a (Queue.Output i) hq outputs h.lies) (h.chars (Queue.Output i) hq)
    kept_chars (Queue.Message i j) hq = tt

    kept_cleared : Zeros (free s m Queue.Ready) → (q : Queue) → Has s q → Zeros (free s m q)
    kept_cleared ready Queue.Ready hq = ready
    kept_cleared ready (Queue.Input i) hq = rw (kept_free P a (Queue.Input i) hq inputs h.lies) (h.cleared (Queue.Input i) hq)
    kept_cleared ready (Queue.Output i) hq = rw (kept_free P a (Queue.Output i) hq outputs h.lies) (h.cleared (Queue.Output i) hq)
    kept_cleared ready (Queue.Message i j) hq = rw (kept_free P a (Queue.Message i j) hq messages h.lies) (h.cleared (Queue.Message i j) hq)

    pub kept_nearly : {w' : Option Task} → Sound s m → ((i : Task) → i.0 < s.n → Flagged s m i) → Zeros (free s m Queue.Ready) → Listed s m
        → Clocked s m → ((i : Task) → i.0 < s.n → ¬ Spared w' i → Stands s m i) → Nearly s m w'
    kept_nearly lies flags ready listed clocked statuses =
        record {
          lies = lies;
          flags = flags;
          chars = kept_chars;
          cleared = kept_cleared ready;
          listed = listed;
          clocked = clocked;
          ports = λ i hi. kept_port P a ports outputs i hi (h.ports i hi);
          statuses = statuses;
        }

-- the ready queue and the clock, where they and the statuses are as they were
module _ {s : Shape} (P : Part → Bool) {im m : List ℕ} {w : Option Task} (a : Apart s P im m) (h : Nearly s im w) (f : P Part.ReadyQueue ≡ false) where
  pub kept_listed : P Part.StatusTable ≡ false → Listed s m
  kept_listed g i =
      let l = kept_held P a Queue.Ready tt f h.lies in
      (λ r. rw l ((h.listed i).0 (r.0, sym (kept_status P a g i r.0) ∙ r.1)), λ n. rw l ((h.listed i).1 (λ r. n (r.0, kept_status P a g i r.0 ∙ r.1))))

  pub kept_slots : Zeros (free s m Queue.Ready)
  kept_slots = rw (kept_free P a Queue.Ready tt f h.lies) (h.cleared Queue.Ready tt)

  pub kept_none : Empty s m Queue.Ready → Empty s im Queue.Ready
  kept_none e = sym (kept_count P a Queue.Ready tt f).0 ∙ e

  pub kept_clocked : P Part.Header ≡ false → Clocked s m
  kept_clocked g =
      let c = kept_clock P a g in
      (rw c h.clocked.0, λ e. c ∙ h.clocked.1 (kept_none e))

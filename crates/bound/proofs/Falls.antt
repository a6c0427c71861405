-- The step: an accepted tick brings a task nearer to its turn, nothing takes it back, and no event touches a word of it. Assumes nothing.
use Rattle.std.specs.Prelude.{◌≡◌, List, ℕ, zero, suc, ◌+◌, ◌-◌, ◌<◌, ◌≤◌, length, get_or, Result}
use Rattle.std.proofs.Common.{◌∙◌, arith, length-append}
use Rattle.std.proofs.Math.ListN.{get_or-append}
use Rattle.paper.specs.Queues.{held}
use Rattle.paper.specs.Waking.{Outcome}
use Rattle.paper.specs.Events.{event_of, happening}
use Rattle.paper.specs.Rules.{Good}
use Rattle.paper.specs.declared.Task.{Task}
use Rattle.paper.specs.declared.Shape.{Shape}
use Rattle.paper.specs.declared.Queue.{Queue}
use Rattle.laws.specs.Events.{event_formed}
use Rattle.event_laws.proofs.Stays.{words_good}
use Rattle.bound.specs.Bound.{Behind, Untouched, tick_count, if_accepted}
use Rattle.bound.specs.Measure.{measure, Nears}
use Rattle.bound.specs.Line.{event_frame, behind_some, frame_untouched}
use Rattle.bound.specs.Ticks.{LeavesPlace, Stays, Step}
use Rattle.bound.proofs.Ticks.{event_steps}
use Rattle.paper.specs.declared.Answer.{Answer}
use Rattle.paper.specs.declared.Refusal.{Refusal}

module _ (s : Shape) (im : List ℕ) (i : Task) (k : ℕ) (b : Behind s im i (suc k)) where
  -- where the first task leaves its place every other one moves up: a tick was used, and the next one has a whole slice at most
  leaves_nears : {m : List ℕ} → Good s m → LeavesPlace s im m → Nears s im m i (suc k) 1
  leaves_nears {m} g v =
      let b' : (suc k < suc (length v.others)) × (get_or v.others k 0 ≡ i.0) = rw v.was at b in
      let l : k < length v.others = omega arith in
      record {
        ahead = k;
        stands = rw v.now (rw length-append (omega arith), get_or-append v.others v.joined 0 k l ∙ b'.1);
        falls = go k;
      }
    where
      go : (k : ℕ) → 1 + measure s m k ≤ measure s im (suc k)
      go zero = omega arith
      go (suc k) =
          let e : suc k - 1 ≡ k = omega arith in
          let f : suc (suc k) - 1 ≡ suc k = omega arith in
          rw (e, f) (omega (arith, g.clock_range))

  -- where it keeps its place, so does every other one
  keeps_nears : {m : List ℕ} {used : ℕ} → Stays s im m used → Nears s im m i (suc k) used
  keeps_nears (v, falls) =
      let ws = held s im Queue.Ready in
      record {
        ahead = suc k;
        stands = rw v.now (rw length-append (omega arith), get_or-append ws v.joined 0 (suc k) b.0 ∙ b.1);
        falls = omega (arith, falls);
      }

  step_nears : {m : List ℕ} {used : ℕ} {r : Result Answer Refusal} → Good s m → Step s im used r m → Nears s im m i (suc k) (if_accepted r used)
  step_nears g (Step.stops v) = leaves_nears g v
  step_nears g (Step.passes _ _ v) = leaves_nears g v
  step_nears g (Step.waits _ _ v) = leaves_nears g v
  step_nears g (Step.does _ _ _ v) = keeps_nears v
  step_nears g (Step.faults _ _ _ v _) = keeps_nears v
  step_nears g (Step.device _ v _) = keeps_nears v
  step_nears g (Step.refused r) = record { ahead = suc k; stands = b; falls = omega arith }

-- an event, and a task with others ahead of it
module _ (s : Shape) (im : List ℕ) (g : Good s im) (i : Task) (k : ℕ) (b : Behind s im i (suc k)) (kind device character : ℕ) where
  abbrev o : Outcome
  o = happening s im (event_of s kind device character)

  -- the step lemma: an accepted tick makes the measure fall by 1 at least, and nothing else raises it
  pub event_nears : Nears s im o.image i (suc k) (if_accepted o.reply (tick_count kind device character))
  event_nears = step_nears s im i k b (words_good s im g kind device character) (event_steps s im g (behind_some s im g i (suc k) b) kind device character)

  -- and no event touches a word of the task
  pub event_untouched : Untouched s im o.image i
  event_untouched = frame_untouched s im g i k b (event_frame s im g (event_of s kind device character) (event_formed s kind device character))

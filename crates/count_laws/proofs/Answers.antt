-- Which events are counted: an accepted tick is, an event of a device is not; 17 is no number of theirs. Assumes nothing.
use Rattle.std.specs.Prelude.{Err, Ok, Result, ⊤}
use mathlib.Core.Path.{◌≡◌, refl, ap}
use mathlib.Core.List.{List}
use mathlib.Core.Bool.{Bool, false, not, cond}
use mathlib.Core.Logic.{◌≢◌}
use Prim.Native.Nat.{ℕ, ◌%◌, ◌<◌}
use native.Mathlib.Omega.{arith}
use borrow.Author.Tests.{eqb-false}
use lib.Dec.{eqb}
use lib.ListN.{length}
use Rattle.paper.specs.Image.{most_tasks, shape_of}
use Rattle.paper.specs.Queues.{empty}
use Rattle.paper.specs.Events.{is_tick, event_of, running, happening}
use Rattle.paper.specs.Rules.{Good}
use Rattle.paper.specs.Tests.{rules_hold}
use Rattle.paper.specs.Numbers.{number, verdict_number, refused_if, and_then, too_short, not_marked, out_of_range, not_packed, wrong_segments, check}
use Rattle.paper.specs.Calls.{check_run}
use Rattle.paper.specs.Counts.{tally}
use Rattle.paper.specs.declared.Shape.{Shape}
use Rattle.paper.specs.declared.Queue.{Queue}
use Rattle.paper.specs.declared.Event.{Event}
use Rattle.paper.specs.declared.Answer.{Answer}
use Rattle.paper.specs.declared.Refusal.{Refusal}
use Rattle.laws.specs.Cases.{when}
use Rattle.laws.specs.Events.{words_any}
use Rattle.event_laws.specs.Walk.{input_any, done_any, event_any}
use Rattle.event_laws.proofs.Walk.{tick_any}
use Rattle.event_laws.proofs.Stays.{first_task}
use Rattle.count_laws.proofs.Counting.{Inside, times}

-- how many ticks an event is
abbrev pub ticks_of : Event → ℕ
ticks_of Event.Tick = 1
ticks_of (Event.Input i c) = 0
ticks_of (Event.OutputDone i) = 0
ticks_of Event.Malformed = 0

pub words_ticks : (s : Shape) (k d c : ℕ) → ticks_of (event_of s k d c) ≡ cond (is_tick k d c) 1 0
words_ticks s k d c =
    words_any s k d c (λ e. ticks_of e ≡ cond (is_tick k d c) 1 0) (λ t. rw t) (λ f _ _. rw f) (λ f _. rw f) (λ f. rw f)

pub one_tick : (e : Event) → ticks_of e ≡ 1 → e ≡ Event.Tick
one_tick Event.Tick h = refl
one_tick (Event.Input i c) h = absurd (omega (arith, h))
one_tick (Event.OutputDone i) h = absurd (omega (arith, h))
one_tick Event.Malformed h = absurd (omega (arith, h))

pub no_tick : (e : Event) → e ≢ Event.Tick → ticks_of e ≡ 0
no_tick Event.Tick ne = absurd (ne refl)
no_tick (Event.Input i c) ne = refl
no_tick (Event.OutputDone i) ne = refl
no_tick Event.Malformed ne = refl

-- a refusal of another number is not 17
not_17 : (r : Refusal) → eqb (number r) 17 ≡ false → r ≢ Refusal.CountFull
not_17 r ne e = eqb-false _ _ ne (ap number e)

-- an accepted event is counted as often as it is a tick; a refused one does not answer 17
abbrev Replies : Event → Result Answer Refusal → Type 0
Replies e (Ok a) = times (tally a) ≡ ticks_of e
Replies e (Err r) = r ≢ Refusal.CountFull

replies : (s : Shape) (im : List ℕ) (e : Event) → Replies e (happening s im e).reply
replies s im =
    event_any s im (λ e o. Replies e o.reply)
    (tick_any (λ t. times (tally t.answer) ≡ 1)
    record {
      idle = λ _. refl;
      stops = λ _ _. refl;
      turns = λ _ _ _. refl;
      serves = λ _ _ _ _ _ _ _. record { faults = λ _ _. refl; stuck = λ _ _. refl; alone = λ _ _ _. refl; woke = λ _ _ _ _. refl };
      orders = λ _ _ _ _ _ _. record { does = λ _ _ _. refl; faults = λ _ _. refl };
    })
    (λ i c. input_any s im i (λ o. Replies (Event.Input i c) o.reply) c (λ _. not_17 Refusal.InputFull refl) (λ _ _. refl) (λ _ _. refl))
    (λ i. done_any s im i (λ o. Replies (Event.OutputDone i) o.reply) (λ _. not_17 Refusal.PortIdle refl) (λ _ _. refl) (λ _ _. refl))
    (not_17 Refusal.MalformedEvent refl)

module _ (s : Shape) (im : List ℕ) (e : Event) where
  pub accepted_times : (a : Answer) → (happening s im e).reply ≡ Ok a → times (tally a) ≡ ticks_of e
  accepted_times a told = rw told at (replies s im e)

  pub refused_not_17 : (r : Refusal) → (happening s im e).reply ≡ Err r → r ≢ Refusal.CountFull
  refused_not_17 r told = rw told at (replies s im e)

-- from a good image what is counted has a place: its task is one of sixteen
abbrev Placed : Result Answer Refusal → Type 0
Placed (Ok a) = Inside (tally a)
Placed (Err r) = Unit {0}

module _ (s : Shape) (im : List ℕ) (g : Good s im) where
  low : empty s im Queue.Ready ≡ false → (running s im).0 < most_tasks
  low some = omega (arith, first_task s im g some, g.laid.fit.tasks)

  placed : (e : Event) → Placed (happening s im e).reply
  placed =
      event_any s im (λ _ o. Placed o.reply)
      (tick_any (λ t. Inside (tally t.answer))
      record {
        idle = λ _. tt;
        stops = λ some _. low some;
        turns = λ some _ _. low some;
        serves = λ some _ _ _ _ _ _. record { faults = λ _ _. low some; stuck = λ _ _. low some; alone = λ _ _ _. low some; woke = λ _ _ _ _. low some };
        orders = λ some _ _ _ _ _. record { does = λ _ _ _. low some; faults = λ _ _. low some };
      })
      (λ i c. input_any s im i (λ o. Placed o.reply) c (λ _. tt) (λ _ _. tt) (λ _ _. tt))
      (λ i. done_any s im i (λ o. Placed o.reply) (λ _. tt) (λ _ _. tt) (λ _ _. tt))
      tt

  pub accepted_inside : (e : Event) (a : Answer) → (happening s im e).reply ≡ Ok a → Inside (tally a)
  accepted_inside e a told = rw told at (placed e)

-- the tests before a run do not answer 17
abbrev Not17 : Result ⊤ Refusal → Type 0
Not17 v = v ≢ Err Refusal.CountFull

tested : (b : Bool) (r : Refusal) (v : Result ⊤ Refusal) → eqb (number r) 17 ≡ false → Not17 v → Not17 (refused_if b r v)
tested b r v ne later = when Not17 b (λ _ e. eqb-false _ _ ne (ap verdict_number e)) (λ _. later)

then_tested : (v w : Result ⊤ Refusal) → Not17 v → Not17 w → Not17 (and_then v w)
then_tested (Ok tt) w first later = later
then_tested (Err r) w first later = first

fine_tested : Not17 (Ok tt)
fine_tested e = let z : ◌≡◌ {A = ℕ} 0 17 = ap verdict_number e in omega (arith, z)

pub check_not_17 : (im events : List ℕ) → check_run im events ≢ Err Refusal.CountFull
unfolding check
check_not_17 im events =
    then_tested (check im) (refused_if (not (eqb (length events % 3) 0)) Refusal.MalformedEvent (Ok tt))
    (tested (too_short im) Refusal.TooShort _ refl
    (tested (not_marked im) Refusal.NotMarked _ refl
    (tested (out_of_range (shape_of im)) Refusal.OutOfRange _ refl
    (tested (not_packed (shape_of im)) Refusal.NotPacked _ refl
    (tested (wrong_segments (shape_of im) im) Refusal.WrongSegments _ refl
    (tested (not (rules_hold (shape_of im) im)) Refusal.RuleBroken _ refl fine_tested))))))
    (tested (not (eqb (length events % 3) 0)) Refusal.MalformedEvent _ refl fine_tested)

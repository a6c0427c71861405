-- Counted events one after another: one induction, and what it shows of what was taken, of the image and of the counts. Assumes nothing.
use Rattle.std.specs.Prelude.{Err, Ok, Result, ⊤}
use mathlib.Core.Path.{◌≡◌, refl, sym, ap, ◌∙◌}
use mathlib.Core.List.{List, [], ◌∷◌, ◌++◌}
use mathlib.Core.Bool.{Bool, true, false, cond}
use mathlib.Core.Logic.{◌≢◌}
use Prim.Native.Nat.{ℕ, ◌+◌, ◌*◌, ◌<◌}
use native.Mathlib.Nat.{zero-add, add_assoc}
use native.Mathlib.Numerals.{one-add}
use native.Mathlib.Omega.{arith}
use borrow.Author.Tests.{eqb-true}
use lib.Dec.{eqb}
use lib.ListN.{length, get_or}
use Rattle.paper.specs.Events.{is_tick, event_of, happening}
use Rattle.paper.specs.Rules.{Good}
use Rattle.paper.specs.Numbers.{verdict_number}
use Rattle.paper.specs.Calls.{one_more, run_from}
use Rattle.paper.specs.Counts.{tally, all_counts, counted, passes_end, counted_event, Reported, reported_at, one_reported, report_from, sum}
use Rattle.paper.specs.declared.Shape.{Shape}
use Rattle.paper.specs.declared.Event.{Event}
use Rattle.paper.specs.declared.Answer.{Answer}
use Rattle.paper.specs.declared.Refusal.{Refusal}
use Rattle.laws.specs.Checked.{all_three, never_fine}
use Rattle.event_laws.proofs.Stays.{words_good}
use Rattle.event_laws.specs.Walk.{happening_unchanged}
use Rattle.user_laws.specs.Taken.{first_events}
use Rattle.count_laws.specs.Used.{ticks_in, counted_in, as_ran, all_reported, one_and, Bounded}
use Rattle.counting.specs.Growing.{counted_length}
use Rattle.count_laws.proofs.Counting.{counted_each, counted_sum, counted_bounded, at_end_counted}
use Rattle.count_laws.proofs.Answers.{words_ticks, one_tick, accepted_times, refused_not_17, accepted_inside}

-- what one event comes to: it is taken and counted, its count is at its end, or it is refused and alters nothing
module _ (s : Shape) (im counts : List ℕ) (k d c : ℕ) (later : List ℕ) where
  pub report_more : (a : Answer) → (happening s im (event_of s k d c)).reply ≡ Ok a → passes_end counts (tally a) ≡ false
      → report_from s im counts (k ∷ d ∷ c ∷ later) ≡ one_reported (report_from s (happening s im (event_of s k d c)).image (counted counts (tally a)) later)
  unfolding counted_event
  report_more a e f = rw (e, f)

  pub report_full : (a : Answer) → (happening s im (event_of s k d c)).reply ≡ Ok a → passes_end counts (tally a) ≡ true
      → report_from s im counts (k ∷ d ∷ c ∷ later) ≡ reported_at (Err Refusal.CountFull) im counts
  unfolding counted_event
  report_full a e f = rw (e, f)

  pub report_last : (r : Refusal) → (happening s im (event_of s k d c)).reply ≡ Err r
      → report_from s im counts (k ∷ d ∷ c ∷ later) ≡ reported_at (Err r) im counts
  unfolding counted_event
  report_last r e = rw (e, happening_unchanged s im (event_of s k d c) r e)

-- what is to be shown of a report of no event, of words that are none, of one more event, of one whose count is at its end, and of a refused one
pub record ReportCases (s : Shape) (P : List ℕ → List ℕ → List ℕ → Reported → Type 0) : Type 0 where
  pub none : (im counts : List ℕ) → P im counts [] (reported_at (Ok tt) im counts)
  pub one : (im counts : List ℕ) (k : ℕ) → P im counts (k ∷ []) (reported_at (Err Refusal.MalformedEvent) im counts)
  pub two : (im counts : List ℕ) (k d : ℕ) → P im counts (k ∷ d ∷ []) (reported_at (Err Refusal.MalformedEvent) im counts)
  pub more : (im counts : List ℕ) (k d c : ℕ) (later : List ℕ) (a : Answer) → (happening s im (event_of s k d c)).reply ≡ Ok a → passes_end counts (tally a) ≡ false
      → P (happening s im (event_of s k d c)).image (counted counts (tally a)) later (report_from s (happening s im (event_of s k d c)).image (counted counts (tally a)) later)
      → P im counts (k ∷ d ∷ c ∷ later) (one_reported (report_from s (happening s im (event_of s k d c)).image (counted counts (tally a)) later))
  pub full : (im counts : List ℕ) (k d c : ℕ) (later : List ℕ) (a : Answer) → (happening s im (event_of s k d c)).reply ≡ Ok a → passes_end counts (tally a) ≡ true
      → P im counts (k ∷ d ∷ c ∷ later) (reported_at (Err Refusal.CountFull) im counts)
  pub last : (im counts : List ℕ) (k d c : ℕ) (later : List ℕ) (r : Refusal) → (happening s im (event_of s k d c)).reply ≡ Err r
      → P im counts (k ∷ d ∷ c ∷ later) (reported_at (Err r) im counts)

-- holds of every report
pub report_any : (s : Shape) (P : List ℕ → List ℕ → List ℕ → Reported → Type 0) → ReportCases s P → (events im counts : List ℕ) → P im counts events (report_from s im counts events)
report_any s P h [] im counts = h.none im counts
report_any s P h (k ∷ []) im counts = h.one im counts k
report_any s P h (k ∷ d ∷ []) im counts = h.two im counts k d
report_any s P h (k ∷ d ∷ c ∷ later) im counts =
    go (happening s im (event_of s k d c)).reply refl (report_any s P h later (happening s im (event_of s k d c)).image)
  where
    m : List ℕ
    m = (happening s im (event_of s k d c)).image

    go : (r : Result Answer Refusal) → (happening s im (event_of s k d c)).reply ≡ r → ((more : List ℕ) → P m more later (report_from s m more later))
        → P im counts (k ∷ d ∷ c ∷ later) (report_from s im counts (k ∷ d ∷ c ∷ later))
    go (Ok a) e ih = test (passes_end counts (tally a)) refl
      where
        test : (b : Bool) → passes_end counts (tally a) ≡ b → P im counts (k ∷ d ∷ c ∷ later) (report_from s im counts (k ∷ d ∷ c ∷ later))
        test true f = rw (report_full s im counts k d c later a e f) (h.full im counts k d c later a e f)
        test false f = rw (report_more s im counts k d c later a e f) (h.more im counts k d c later a e f (ih (counted counts (tally a))))
    go (Err r) e ih = rw (report_last s im counts k d c later r e) (h.last im counts k d c later r e)

module _ (s : Shape) where
  -- where 17 does not come it is the run
  pub from_run : (events im counts : List ℕ) → (report_from s im counts events).stop ≢ Err Refusal.CountFull
      → as_ran (report_from s im counts events) ≡ run_from s im events
  from_run =
      report_any s (λ im counts events rep. rep.stop ≢ Err Refusal.CountFull → as_ran rep ≡ run_from s im events)
      record {
        none = λ _ _ _. refl;
        one = λ _ _ _ _. refl;
        two = λ _ _ _ _ _. refl;
        more = λ im counts k d c later a e f ih ne. rw e (ap one_more (ih ne));
        full = λ im counts k d c later a e f ne. absurd (ne refl);
        last = λ im counts k d c later r e ne. rw (e, happening_unchanged s im (event_of s k d c) r e);
      }

  -- the events that were taken, alone: as a run, and as a report
  pub before_run : (events im counts : List ℕ)
      → run_from s im (first_events (report_from s im counts events).taken events) ≡ as_ran (all_reported (report_from s im counts events))
  before_run =
      report_any s (λ im counts events rep. run_from s im (first_events rep.taken events) ≡ as_ran (all_reported rep))
      record {
        none = λ _ _. refl;
        one = λ _ _ _. refl;
        two = λ _ _ _ _. refl;
        more = λ im counts k d c later a e f ih. rw (one-add, e, ih, one-add);
        full = λ _ _ _ _ _ _ _ _ _. refl;
        last = λ _ _ _ _ _ _ _ _. refl;
      }

  pub before_report : (events im counts : List ℕ)
      → report_from s im counts (first_events (report_from s im counts events).taken events) ≡ all_reported (report_from s im counts events)
  before_report =
      report_any s (λ im counts events rep. report_from s im counts (first_events rep.taken events) ≡ all_reported rep)
      record {
        none = λ _ _. refl;
        one = λ _ _ _. refl;
        two = λ _ _ _ _. refl;
        more = λ im counts k d c later a e f ih.
            let part = first_events (report_from s (happening s im (event_of s k d c)).image (counted counts (tally a)) later).taken later in
            rw one-add (report_more s im counts k d c part a e f ∙ ap one_reported ih ∙ rw one-add);
        full = λ _ _ _ _ _ _ _ _ _. refl;
        last = λ _ _ _ _ _ _ _ _. refl;
      }

  -- a good image stays good
  pub report_good : (events im counts : List ℕ) → Good s im → Good s (report_from s im counts events).image
  report_good =
      report_any s (λ im counts events rep. Good s im → Good s rep.image)
      record {
        none = λ _ _ g. g;
        one = λ _ _ _ g. g;
        two = λ _ _ _ _ g. g;
        more = λ im counts k d c later a e f ih g. ih (words_good s im g k d c);
        full = λ _ _ _ _ _ _ _ _ _ g. g;
        last = λ _ _ _ _ _ _ _ _ g. g;
      }

  -- how many counts there are stays, and none passes its end
  pub report_length : (events im counts : List ℕ) → length (report_from s im counts events).counts ≡ length counts
  report_length =
      report_any s (λ im counts events rep. length rep.counts ≡ length counts)
      record {
        none = λ _ _. refl;
        one = λ _ _ _. refl;
        two = λ _ _ _ _. refl;
        more = λ im counts k d c later a e f ih. ih ∙ counted_length counts (tally a);
        full = λ _ _ _ _ _ _ _ _ _. refl;
        last = λ _ _ _ _ _ _ _ _. refl;
      }

  pub report_bounded : (events im counts : List ℕ) → Bounded counts → Bounded (report_from s im counts events).counts
  report_bounded =
      report_any s (λ im counts events rep. Bounded counts → Bounded rep.counts)
      record {
        none = λ _ _ b. b;
        one = λ _ _ _ b. b;
        two = λ _ _ _ _ b. b;
        more = λ im counts k d c later a e f ih b. ih (counted_bounded counts (tally a) b f);
        full = λ _ _ _ _ _ _ _ _ _ b. b;
        last = λ _ _ _ _ _ _ _ _ b. b;
      }

  -- each count has grown by how many events are counted there, their sum by the ticks
  pub report_each : (events im counts : List ℕ) (j : ℕ) → j < length counts
      → get_or (report_from s im counts events).counts j 0 ≡ get_or counts j 0 + counted_in s j im (first_events (report_from s im counts events).taken events)
  report_each =
      report_any s (λ im counts events rep. (j : ℕ) → j < length counts
      → get_or rep.counts j 0 ≡ get_or counts j 0 + counted_in s j im (first_events rep.taken events))
      record {
        none = λ _ _ j h. omega arith;
        one = λ _ _ _ j h. omega arith;
        two = λ _ _ _ _ j h. omega arith;
        more = λ im counts k d c later a e f ih j h.
            rw (one-add, e) (omega (arith, ih j (rw (counted_length counts (tally a)) h), counted_each counts (tally a) j h));
        full = λ _ _ _ _ _ _ _ _ _ j h. omega arith;
        last = λ _ _ _ _ _ _ _ _ j h. omega arith;
      }

  pub report_sum : (events im counts : List ℕ) → Good s im → length counts ≡ all_counts
      → sum (report_from s im counts events).counts ≡ sum counts + ticks_in (first_events (report_from s im counts events).taken events)
  report_sum =
      report_any s (λ im counts events rep. Good s im → length counts ≡ all_counts
      → sum rep.counts ≡ sum counts + ticks_in (first_events rep.taken events))
      record {
        none = λ _ _ g n. omega arith;
        one = λ _ _ _ g n. omega arith;
        two = λ _ _ _ _ g n. omega arith;
        more = λ im counts k d c later a e f ih g n.
            let later-on = ih (words_good s im g k d c) (counted_length counts (tally a) ∙ n) in
            let now = counted_sum counts (tally a) n (accepted_inside s im g (event_of s k d c) a e) in
            rw one-add (omega (arith, later-on, now, accepted_times s im (event_of s k d c) a e, words_ticks s k d c));
        full = λ _ _ _ _ _ _ _ _ _ g n. omega arith;
        last = λ _ _ _ _ _ _ _ _ g n. omega arith;
      }

  -- one list after another, the first taken whole
  pub report_joined : (events im counts later : List ℕ) → (report_from s im counts events).stop ≡ Ok tt
      → report_from s im counts (events ++ later) ≡
      one_and (report_from s im counts events) (report_from s (report_from s im counts events).image (report_from s im counts events).counts later)
  report_joined events im counts later =
      report_any s (λ im counts events rep. rep.stop ≡ Ok tt
      → report_from s im counts (events ++ later) ≡ one_and rep (report_from s rep.image rep.counts later))
      record {
        none = λ _ _ _. rw zero-add;
        one = λ _ _ _ z. absurd (never_fine _ z);
        two = λ _ _ _ _ z. absurd (never_fine _ z);
        more = λ im counts k d c rest a e f ih z.
            report_more s im counts k d c (rest ++ later) a e f ∙ ap one_reported (ih z) ∙ rw add_assoc;
        full = λ _ _ _ _ _ _ _ _ _ z. absurd (never_fine _ z);
        last = λ _ _ _ _ _ _ _ _ z. absurd (never_fine _ z);
      } events im counts

-- where 17 comes: the next event is a tick, which the image that was reached accepts, and its count is at its end
pub record Ends (s : Shape) (events : List ℕ) (rep : Reported) : Type 0 where
  pub rest : List ℕ
  pub next : events ≡ first_events rep.taken events ++ (0 ∷ 0 ∷ 0 ∷ rest)
  pub some_left : 3 * rep.taken < length events
  pub answer : Answer
  pub accepted : (happening s rep.image Event.Tick).reply ≡ Ok answer
  pub at_its_end : passes_end rep.counts (tally answer) ≡ true

is_three : (k d c : ℕ) (later : List ℕ) → is_tick k d c ≡ true → k ∷ d ∷ c ∷ later ≡ 0 ∷ 0 ∷ 0 ∷ later
is_three k d c later t =
    let z = (all_three (eqb k 0) (eqb d 0) (eqb c 0)).0 t in
    rw (eqb-true k 0 z.0, eqb-true d 0 z.1, eqb-true c 0 z.2)

test_of : (b : Bool) → ◌≡◌ {A = ℕ} (cond b 1 0) 1 → b ≡ true
test_of true e = refl
test_of false e = absurd (omega (arith, e))

pub report_ends : (s : Shape) (events im counts : List ℕ) → (report_from s im counts events).stop ≡ Err Refusal.CountFull → Ends s events (report_from s im counts events)
report_ends s =
    report_any s (λ im counts events rep. rep.stop ≡ Err Refusal.CountFull → Ends s events rep)
    record {
      none = λ _ _ z. absurd (never_fine _ (sym z));
      one = λ _ _ _ z. absurd (malformed z);
      two = λ _ _ _ _ z. absurd (malformed z);
      more = λ im counts k d c later a e f ih z.
          let r = ih z in
          record {
            rest = r.rest;
            next = rw one-add (ap {B = List ℕ} (λ (l : List ℕ). k ∷ d ∷ c ∷ l) r.next);
            some_left = omega (arith, r.some_left);
            answer = r.answer;
            accepted = r.accepted;
            at_its_end = r.at_its_end;
          };
      full = λ im counts k d c later a e f z.
          let t = sym (accepted_times s im (event_of s k d c) a e) ∙ at_end_counted counts (tally a) f in
          record {
            rest = later;
            next = is_three k d c later (test_of (is_tick k d c) (sym (words_ticks s k d c) ∙ t));
            some_left = omega arith;
            answer = a;
            accepted = rw (← one_tick (event_of s k d c) t) e;
            at_its_end = f;
          };
      last = λ im counts k d c later r e z. absurd (refused_not_17 s im (event_of s k d c) r e (cc));
    }
  where
    malformed : ◌≢◌ {A = Result ⊤ Refusal} (Err Refusal.MalformedEvent) (Err Refusal.CountFull)
    malformed z = let n : ◌≡◌ {A = ℕ} 7 17 = ap verdict_number z in omega (arith, n)

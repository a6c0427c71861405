-- What the user is told of a run that counts holds. Assumes nothing.
use Rattle.std.specs.Prelude.{Err, Ok, Result, ⊤}
use mathlib.Core.Path.{◌≡◌, refl, sym, ap, ◌∙◌}
use mathlib.Core.List.{List, ◌++◌}
use mathlib.Core.Bool.{Bool, true, false, not}
use mathlib.Core.Logic.{◌≢◌}
use Prim.Native.Nat.{ℕ, ◌+◌, ◌*◌, ◌%◌, ◌<◌, ◌≤◌}
use native.Mathlib.Omega.{arith}
use borrow.Author.Tests.{eqb-true, eq-eqb}
use lib.Dec.{eqb}
use lib.ListN.{length, get_or, length-append}
use Rattle.paper.specs.Image.{shape_of}
use Rattle.paper.specs.Events.{happening}
use Rattle.paper.specs.Numbers.{check, refused_if}
use Rattle.paper.specs.Calls.{check_run, run}
use Rattle.paper.specs.Counts.{tally, all_counts, counted, most_count, passes_end, Counted, counting, counted_event, Reported, reported_at, report_from, report, sum}
use Rattle.paper.specs.declared.Shape.{Shape}
use Rattle.paper.specs.declared.Event.{Event}
use Rattle.paper.specs.declared.Answer.{Answer}
use Rattle.paper.specs.declared.Refusal.{Refusal}
use Rattle.laws.specs.Cases.{when}
use Rattle.laws.specs.Layout.{shape_is}
use Rattle.laws.specs.Checked.{checked_good, good_checked, never_fine, then_fine}
use Rattle.user_laws.specs.Folded.{run_refused}
use Rattle.user_laws.specs.Taken.{first_events, events_whole, run_whole}
use Rattle.count_laws.specs.Used.{ticks_in, counted_in, used_at, taken_events, as_ran, one_and, Full, OneMore, Bounded, Used}
use Rattle.counting.specs.Growing.{before_idle, sum_bounded}
use Rattle.count_laws.proofs.Counting.{one_heading, counted_none, counted_one}
use Rattle.count_laws.proofs.Answers.{no_tick, accepted_times, accepted_inside, check_not_17}
use Rattle.count_laws.proofs.Reporting.{from_run, before_run, before_report, report_good, report_length, report_bounded, report_each, report_sum, report_joined, report_ends}

-- a report of an image that passes the check and of whole events, and one that is refused as a whole
report_whole : (im : List ℕ) → check im ≡ Ok tt → (events : List ℕ) → length events % 3 ≡ 0 → (counts : List ℕ)
    → report im events counts ≡ report_from (shape_of im) im counts events
unfolding report
report_whole im fine events w counts = rw (fine, eq-eqb (length events % 3) 0 w)

report_refused : (im events counts : List ℕ) (r : Refusal) → check_run im events ≡ Err r
    → report im events counts ≡ reported_at (Err r) im counts
unfolding report
report_refused im events counts r e = rw e

whole : (b : Bool) → refused_if (not b) Refusal.MalformedEvent (Ok tt) ≡ Ok tt → b ≡ true
whole true e = refl
whole false e = absurd (never_fine _ e)

-- whatever holds of both holds of every report
either : (P : Reported → Type 0) (im events counts : List ℕ)
    → (check im ≡ Ok tt → length events % 3 ≡ 0 → P (report_from (shape_of im) im counts events))
    → ((r : Refusal) → check_run im events ≡ Err r → P (reported_at (Err r) im counts)) → P (report im events counts)
either P im events counts fine refused = go (check_run im events) refl
  where
    go : (v : Result ⊤ Refusal) → check_run im events ≡ v → P (report im events counts)
    go (Ok tt) e =
        let t = then_fine (check im) (refused_if (not (eqb (length events % 3) 0)) Refusal.MalformedEvent (Ok tt)) e in
        let w = eqb-true (length events % 3) 0 (whole (eqb (length events % 3) 0) t.1) in
        rw (report_whole im t.0 events w counts) (fine t.0 w)
    go (Err r) e = rw (report_refused im events counts r e) (refused r e)

as_run : (im events counts : List ℕ) → (report im events counts).stop ≢ Err Refusal.CountFull → as_ran (report im events counts) ≡ run im events
as_run im events counts =
    either (λ rep. rep.stop ≢ Err Refusal.CountFull → as_ran rep ≡ run im events) im events counts
    (λ fine w ne. rw (run_whole im fine events w) (from_run (shape_of im) events im counts ne))
    (λ r e ne. rw (run_refused im events r e))

full_at : (im events counts : List ℕ) → (report im events counts).stop ≡ Err Refusal.CountFull
    → (check im ≡ Ok tt) × (length events % 3 ≡ 0)
full_at im events counts =
    either (λ rep. rep.stop ≡ Err Refusal.CountFull → (check im ≡ Ok tt) × (length events % 3 ≡ 0)) im events counts
    (λ fine w _. (fine, w)) (λ r e z. absurd (check_not_17 im events (e ∙ z)))

full : (im events counts : List ℕ) → (report im events counts).stop ≡ Err Refusal.CountFull → Full im events counts
full im events counts z =
    let h = full_at im events counts z in
    let s = shape_of im in
    let is : report im events counts ≡ report_from s im counts events = report_whole im h.0 events h.1 counts in
    let part = first_events (report_from s im counts events).taken events in
    let w : length part % 3 ≡ 0 = events_whole (report_from s im counts events).taken events in
    let r = report_ends s events im counts (rw is at z) in
    record {
      some_left = rw is r.some_left;
      rest = r.rest;
      next = rw is r.next;
      answer = r.answer;
      accepted = rw is r.accepted;
      at_its_end = rw is r.at_its_end;
      run_before = rw is (run_whole im h.0 part w ∙ before_run s events im counts);
      report_before = rw is (report_whole im h.0 part w counts ∙ before_report s events im counts);
    }

-- a counted event: its count is at its end, it is accepted and counted, or it is refused
counted_any : (s : Shape) (im counts : List ℕ) (e : Event) (P : Counted → Type 0)
    → ((a : Answer) → P (record { reply = Err Refusal.CountFull; image = im; counts = counts }))
    → ((a : Answer) → (happening s im e).reply ≡ Ok a → P (record { reply = Ok a; image = (happening s im e).image; counts = counted counts (tally a) }))
    → ((r : Refusal) → P (record { reply = Err r; image = (happening s im e).image; counts = counts })) → P (counted_event s im counts e)
unfolding counted_event
counted_any s im counts e P at_end taken refused = go (happening s im e).reply refl
  where
    go : (r : Result Answer Refusal) → (happening s im e).reply ≡ r → P (counting r im (happening s im e).image counts)
    go (Ok a) told = when P (passes_end counts (tally a)) (λ _. at_end a) (λ _. taken a told)
    go (Err r) told = refused r

never_accepted : (r : Refusal) (a : Answer) → Err r ≢ Ok a
never_accepted r a e = let z : ◌≡◌ {A = ℕ} 0 1 = cc in omega (arith, z)

under_one : (im counts : List ℕ) → check im ≡ Ok tt → length counts ≡ all_counts → (a : Answer)
    → (counted_event (shape_of im) im counts Event.Tick).reply ≡ Ok a → OneMore counts (counted_event (shape_of im) im counts Event.Tick).counts
under_one im counts fine n a =
    let s = shape_of im in
    counted_any s im counts Event.Tick (λ o. o.reply ≡ Ok a → OneMore counts o.counts) (λ b z. absurd (never_accepted _ a z))
    (λ b told z.
    counted_one counts (tally b) n (accepted_inside s im (checked_good im fine) Event.Tick b told) (accepted_times s im Event.Tick b told))
    (λ r z. absurd (never_accepted r a z))

under_none : (s : Shape) (im counts : List ℕ) (e : Event) → e ≢ Event.Tick → (counted_event s im counts e).counts ≡ counts
under_none s im counts e ne =
    counted_any s im counts e (λ o. o.counts ≡ counts) (λ _. refl)
    (λ a told. counted_none counts (tally a) (accepted_times s im e a told ∙ no_tick e ne)) (λ _. refl)

-- what the counts have grown by
adds_up : (im events counts : List ℕ) → length counts ≡ all_counts → sum (report im events counts).counts ≡ sum counts + ticks_in (taken_events im events counts)
adds_up im events counts n =
    either (λ rep. sum rep.counts ≡ sum counts + ticks_in (first_events rep.taken events)) im events counts
    (λ fine _. report_sum (shape_of im) events im counts (checked_good im fine) n) (λ _ _. omega arith)

each_count : (im events counts : List ℕ) (k : ℕ) → k < length counts → get_or (report im events counts).counts k 0 ≡ get_or counts k 0 + used_at im events counts k
each_count im events counts k h =
    either (λ rep. get_or rep.counts k 0 ≡ get_or counts k 0 + counted_in (shape_of im) k im (first_events rep.taken events)) im events counts
    (λ _ _. report_each (shape_of im) events im counts k h) (λ _ _. omega arith)

as_many : (im events counts : List ℕ) → length (report im events counts).counts ≡ length counts
as_many im events counts =
    either (λ rep. length rep.counts ≡ length counts) im events counts (λ _ _. report_length (shape_of im) events im counts) (λ _ _. refl)

two_runs : (im events other later counts : List ℕ) (k : ℕ) → k < length counts
    → get_or (report other later (report im events counts).counts).counts k 0 ≡
    get_or counts k 0 + used_at im events counts k + used_at other later (report im events counts).counts k
two_runs im events other later counts k h =
    omega (arith, each_count im events counts k h, each_count other later (report im events counts).counts k (rw (as_many im events counts) h))

bounded : (im events counts : List ℕ) → Bounded counts → Bounded (report im events counts).counts
bounded im events counts b =
    either (λ rep. Bounded rep.counts) im events counts (λ _ _. report_bounded (shape_of im) events im counts b) (λ _ _. b)

stays_good : (im events counts : List ℕ) → check im ≡ Ok tt → check (report im events counts).image ≡ Ok tt
stays_good im events counts fine =
    either (λ rep. check rep.image ≡ Ok tt) im events counts
    (λ _ _. good_checked (shape_of im) _ (report_good (shape_of im) events im counts (checked_good im fine))) (λ _ _. fine)

-- a list that is taken whole, and a second one
joined : (im events later counts : List ℕ) → (report im events counts).stop ≡ Ok tt → length later % 3 ≡ 0
    → report im (events ++ later) counts ≡
    one_and (report im events counts) (report (report im events counts).image later (report im events counts).counts)
joined im events later counts f w =
    either (λ rep. rep.stop ≡ Ok tt → report im (events ++ later) counts ≡ one_and rep (report rep.image later rep.counts)) im events counts
    (λ fine v z.
    let s = shape_of im in
    let rep = report_from s im counts events in
    let g = report_good s events im counts (checked_good im fine) in
    let both : length (events ++ later) % 3 ≡ 0 = omega (arith, length-append events later, v, w) in
    let second : report rep.image later rep.counts ≡ report_from s rep.image rep.counts later =
    report_whole rep.image (good_checked s rep.image g) later w rep.counts ∙ rw (shape_is s rep.image g.laid) in
    report_whole im fine (events ++ later) both counts ∙ report_joined s events im counts later z ∙ ap (one_and rep) (sym second))
    (λ r e z. absurd (never_fine r z)) f

pub used : Used
used =
    record {
      as_run = as_run;
      full = full;
      under_one = under_one;
      headings_apart = one_heading;
      idle_apart = λ i h l e. omega (arith, before_idle i h l, e);
      devices_under_none = under_none;
      adds_up = adds_up;
      each_count = each_count;
      two_runs = two_runs;
      joined = joined;
      stays_good = stays_good;
      bounded = bounded;
      as_many = as_many;
      sum_small = λ counts n b.
          let most : sum counts ≤ all_counts * most_count = rw n at (sum_bounded counts b) in
          omega (arith, most);
      refused = report_refused;
    }

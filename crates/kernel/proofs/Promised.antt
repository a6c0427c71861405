-- What `event`, `run` and `report` promise, from what the calls behind them answer. Assumes nothing.
use Rattle.std.specs.Prelude.{Err, Ok, Result, ⊤}
use mathlib.Core.Path.{◌≡◌, refl, sym, ap, ◌∙◌}
use mathlib.Core.List.{List, [], ◌∷◌}
use mathlib.Core.Bool.{Bool, true, false, not, true≢false}
use Prim.Native.Nat.{ℕ, ◌+◌, ◌%◌, ◌/◌}
use native.Mathlib.Omega.{arith}
use borrow.Author.Tests.{eqb-true}
use lib.Dec.{eqb}
use lib.ListN.{length}
use Rattle.paper.specs.Waking.{outcome}
use Rattle.paper.specs.Events.{event_of, happening}
use Rattle.paper.specs.Numbers.{verdict_number, reply_number, reply_values, refused_if, check}
use Rattle.paper.specs.Calls.{Ran, one_more, goes_on, run_from, check_run, event, run}
use Rattle.paper.specs.Counts.{tally, counted, Counted, counting, counted_event, Reported, one_reported, reports_on, report_from, report}
use Rattle.paper.specs.Promises.{Happens, Runs, Reports}
use Rattle.paper.specs.declared.Ended.{Ended}
use Rattle.paper.specs.declared.Task.{Task}
use Rattle.paper.specs.declared.Shape.{Shape}
use Rattle.paper.specs.declared.Answer.{Answer}
use Rattle.paper.specs.declared.Refusal.{Refusal}
use Rattle.laws.specs.Checked.{never_fine, then_fine}
use Rattle.laws.specs.Events.{Lawful, inspected_lawful}
use Rattle.counting.specs.Room.{Room, RoomIf}
use Rattle.counting.specs.Growing.{counted_room, room_less, room_open}
use Rattle.happening.specs.Lists.{Toll, tells_on, told_from, stop_of, Ends}
use Rattle.happening.specs.Tallies.{counts_on, counts_from, Tallies}
use Rattle.happening.specs.declared.Took.{Took}
use Rattle.careful.specs.OneByOne.{CountsAll}
use Rattle.inspect.specs.Inspects.{Inspects}
use Rattle.kernel.specs.Begins.{Begins}

-- a good image is lawful
pub fine_lawful : (im : List ℕ) (s : Shape) → Inspects im (Ok s) → Lawful s im
fine_lawful im s h = inspected_lawful s im (check im) refl h.1 h.0

-- one event
module _ (im : List ℕ) (k d c : ℕ) where
  happened : (answer : Result Answer Refusal) (out : List ℕ) → outcome answer out ≡ event im k d c → Happens im k d c answer out
  happened answer out e =
      let told = ap (λ o. o.reply) e in
      record { answered = told; numbered = ap reply_number told; valued = ap reply_values told; left = ap (λ o. o.image) e }

  pub event_fine : (s : Shape) → Inspects im (Ok s) → (answer : Result Answer Refusal) (out : List ℕ)
      → outcome answer out ≡ happening s im (event_of s k d c) → Happens im k d c answer out
  unfolding event
  event_fine s h answer out e = happened answer out (rw (h.0, ← h.1) e)

  pub event_refused : (r : Refusal) → check im ≡ Err r → Happens im k d c (Err r) im
  unfolding event
  event_refused r f = happened (Err r) im (rw f)

-- a run over whole events, as they are told
abbrev ran_as : Toll → Ran
ran_as t = record { taken = t.taken; stop = stop_of t.last; image = t.image }

run_told : (s : Shape) (im events : List ℕ) → length events % 3 ≡ 0 → (a : Answer) → run_from s im events ≡ ran_as (told_from s im events (Ok a))
run_told s im [] h a = refl
run_told s im (k ∷ []) h a = absurd (omega arith)
run_told s im (k ∷ d ∷ []) h a = absurd (omega arith)
run_told s im (k ∷ d ∷ c ∷ events) h a =
    go (λ out b. run_told s out events (omega arith) b) (happening s im (event_of s k d c)).reply (happening s im (event_of s k d c)).image
  where
    go : ((out : List ℕ) (b : Answer) → run_from s out events ≡ ran_as (told_from s out events (Ok b))) → (r : Result Answer Refusal) (out : List ℕ)
        → goes_on r out (λ next. run_from s next events) ≡ ran_as (tells_on r out (λ next. told_from s next events r))
    go later (Ok b) out = ap one_more (later out b)
    go later (Err f) out = refl

-- a run that counts, as its events are told and counted, where no count comes to its end
abbrev reported_as : Toll → List ℕ → Reported
reported_as t more = record { taken = t.taken; stop = stop_of t.last; image = t.image; counts = more }

abbrev counts_one : Counted → (List ℕ → List ℕ → Reported) → Reported
counts_one o later = reports_on o.reply o.image o.counts later

report_told : (s : Shape) (im counts events : List ℕ) → length events % 3 ≡ 0 → Room counts (length events / 3) → (a : Answer)
    → report_from s im counts events ≡ reported_as (told_from s im events (Ok a)) (counts_from s im events counts)
unfolding counted_event
report_told s im counts [] h room a = refl
report_told s im counts (k ∷ []) h room a = absurd (omega arith)
report_told s im counts (k ∷ d ∷ []) h room a = absurd (omega arith)
report_told s im counts (k ∷ d ∷ c ∷ events) h room a =
    go (λ out more left b. report_told s out more events (omega arith) left b)
    (room_less counts (1 + length events / 3) (length (k ∷ d ∷ c ∷ events) / 3) room (omega arith)) (happening s im (event_of s k d c)).reply
    (happening s im (event_of s k d c)).image
  where
    go : ((out more : List ℕ) → Room more (length events / 3) → (b : Answer)
        → report_from s out more events ≡ reported_as (told_from s out events (Ok b)) (counts_from s out events more))
        → Room counts (1 + length events / 3) → (r : Result Answer Refusal) (out : List ℕ)
        → counts_one (counting r im out counts) (λ next more. report_from s next more events)
        ≡ reported_as (tells_on r out (λ next. told_from s next events r)) (counts_on r out counts (λ next more. counts_from s next events more))
    go later left (Ok b) out =
        rw (room_open counts (1 + length events / 3) left (omega arith) (tally b))
        (ap one_reported (later out (counted counts (tally b)) (counted_room counts (length events / 3) left (tally b)) b))
    go later left (Err f) out = refl

-- where a test says that there is room, there is
pub room_found : (b : Bool) (counts : List ℕ) (n : ℕ) → RoomIf b counts n → b ≡ true → Room counts n
unfolding RoomIf
room_found true counts n h e = h
room_found false counts n h e = absurd (true≢false (sym e))

pub all_counted : (s : Shape) (im counts events : List ℕ) → length events % 3 ≡ 0 → Room counts (length events / 3)
    → (took : Took) (answer : Ended) (out more : List ℕ) → Ends s im events took.taken took.last out → Tallies s im events counts more
    → (answer.taken ≡ took.taken) × (answer.stop ≡ stop_of took.last)
    → CountsAll s im counts events answer.taken answer.stop out more
unfolding Ends Tallies CountsAll
all_counted s im counts events whole room took answer out more e em (et, es) =
    rw (em, et, es, report_told s im counts events whole room Answer.Idle, e)

-- a run that begins, and one that is refused
module _ (im events : List ℕ) where
  ran : (answer : Ended) (out : List ℕ) → record { taken = answer.taken; stop = answer.stop; image = out } ≡ run im events → Runs im events answer out
  ran answer out e =
      let stop = ap (λ (r : Ran). r.stop) e in
      record { counted = ap (λ (r : Ran). r.taken) e; stopped = stop; numbered = ap verdict_number stop; left = ap (λ (r : Ran). r.image) e }

  reported : (counts : List ℕ) (answer : Ended) (out more : List ℕ)
      → record { taken = answer.taken; stop = answer.stop; image = out; counts = more } ≡ report im events counts → Reports im events counts answer out more
  reported counts answer out more e =
      let stop = ap (λ (r : Reported). r.stop) e in
      record {
        counted = ap (λ (r : Reported). r.taken) e;
        stopped = stop;
        numbered = ap verdict_number stop;
        left = ap (λ (r : Reported). r.image) e;
        tallied = ap (λ (r : Reported). r.counts) e;
      }

  module _ (r : Refusal) (f : check_run im events ≡ Err r) where
    pub run_refused : Runs im events (record { taken = 0; stop = Err r }) im
    unfolding run
    run_refused = ran _ im (rw f)

    pub report_refused : (counts : List ℕ) → Reports im events counts (record { taken = 0; stop = Err r }) im counts
    unfolding report
    report_refused counts = reported counts _ im counts (rw f)

  module _ (s : Shape) (h : Begins im events (Ok s)) where
    both_fine : (check im ≡ Ok tt) × (refused_if (not (eqb (length events % 3) 0)) Refusal.MalformedEvent (Ok tt) ≡ Ok tt)
    both_fine = then_fine (check im) (refused_if (not (eqb (length events % 3) 0)) Refusal.MalformedEvent (Ok tt)) h.0

    pub run_lawful : Lawful s im
    run_lawful = inspected_lawful s im (check im) refl h.1 both_fine.0

    pub run_whole : length events % 3 ≡ 0
    run_whole = go (eqb (length events % 3) 0) refl both_fine.1
      where
        go : (b : Bool) → eqb (length events % 3) 0 ≡ b → refused_if (not b) Refusal.MalformedEvent (Ok tt) ≡ Ok tt → length events % 3 ≡ 0
        go true e h = eqb-true (length events % 3) 0 e
        go false e h = absurd (never_fine Refusal.MalformedEvent h)

    pub run_fine : (took : Took) (answer : Ended) (out : List ℕ) → Ends s im events took.taken took.last out
        → (answer.taken ≡ took.taken) × (answer.stop ≡ stop_of took.last) → Runs im events answer out
    unfolding run Ends
    run_fine took answer out e (et, ep) =
        let all = run_told s im events run_whole Answer.Idle ∙ ap ran_as e in
        ran answer out (rw (h.0, ← h.1, all, et, ep))

    pub report_fine : (counts : List ℕ) (answer : Ended) (out more : List ℕ)
        → CountsAll s im counts events answer.taken answer.stop out more → Reports im events counts answer out more
    unfolding report CountsAll
    report_fine counts answer out more e = reported counts answer out more (rw (h.0, ← h.1) (sym e))

-- The three demands hold, and requests 2, 5 and 6. Assumes nothing.
use Rattle.std.specs.Prelude.{Err, Ok, Result, ⊤}
use mathlib.Core.Path.{◌≡◌, refl, sym, ap, ◌∙◌}
use mathlib.Core.List.{List}
use mathlib.Core.Logic.{◌≢◌}
use Prim.Native.Nat.{ℕ}
use Rattle.paper.specs.Image.{total, shape_of}
use Rattle.paper.specs.Waking.{Outcome, accepting}
use Rattle.paper.specs.Events.{event_of, tick, happening}
use Rattle.paper.specs.Plans.{plan_shape, fresh}
use Rattle.paper.specs.Rules.{Good}
use Rattle.paper.specs.Numbers.{kind, verdict_number, reply_number, check, check_plan, check_build}
use Rattle.paper.specs.Calls.{Ran, size_as, plan_size, size_number, built_as, built, event_if, event, stopped_at, check_run, run}
use Rattle.paper.specs.Promises.{Checks, Happens}
use Rattle.paper.specs.declared.Shape.{Shape}
use Rattle.paper.specs.declared.Queue.{Queue}
use Rattle.paper.specs.declared.Service.{Service}
use Rattle.laws.specs.Checked.{checked_good, good_checked, zero_is, then_fine, check_zero}
use Rattle.laws.specs.Fresh.{fresh_checked}
use Rattle.laws.specs.Events.{event_formed}
use Rattle.laws.specs.Room.{good_listed, listed_none, waits_not}
use Rattle.event_laws.proofs.Stays.{words_good}
use Rattle.event_laws.proofs.Wakes.{wake_finds_room, wakes_exactly}
use Rattle.user_laws.specs.Folded.{event_is, event_unchanged, run_refused}
use Rattle.user_laws.proofs.Balance.{calls_good, calls_words}
use Rattle.user_laws.specs.Slots.{slots_held}
use Rattle.user_laws.specs.Asked.{asked_waits, asked_done}
use Rattle.user_laws.proofs.Waiting.{calls_stay}
use Rattle.demands.specs.Demands.{due, run_tests, word_of, Demand1, Asks, Demand2, Demand3, Request5, Request6, Demands}
use Rattle.demands.proofs.Numbers.{image_due, plan_due, build_due, run_due, exactly, call_due}
use Rattle.demands.proofs.AsCalls.{is_calls, took_whole, stopped_at as stops}
use Rattle.demands.proofs.Turns.{turn}
use Rattle.demands.proofs.Slices.{request2}
use Rattle.paper.specs.declared.Answer.{Answer}
use Rattle.paper.specs.declared.Refusal.{Refusal}

-- a refused build leaves the target, a refused event the image, a refused run the image
build_unchanged : (plan target : List ℕ) → verdict_number (check_build plan target) ≢ 0 → built plan target ≡ target
unfolding built
build_unchanged plan target = go (check_build plan target)
  where
    go : (v : Result ⊤ Refusal) → verdict_number v ≢ 0 → built_as v plan target ≡ target
    go (Ok tt) ne = absurd (ne refl)
    go (Err r) ne = refl

refused_unchanged : (im : List ℕ) (k d c : ℕ) → reply_number (event im k d c).reply ≢ 0 → (event im k d c).image ≡ im
refused_unchanged im k d c = go (event im k d c).reply refl
  where
    go : (r : Result Answer Refusal) → (event im k d c).reply ≡ r → reply_number r ≢ 0 → (event im k d c).image ≡ im
    go (Ok a) e ne = absurd (ne refl)
    go (Err r) e ne = event_unchanged im k d c r e

run_unchanged : (im events : List ℕ) → verdict_number (check_run im events) ≢ 0 → run im events ≡ stopped_at (check_run im events) im
run_unchanged im events = go (check_run im events) refl
  where
    go : (v : Result ⊤ Refusal) → check_run im events ≡ v → verdict_number v ≢ 0 → run im events ≡ stopped_at v im
    go (Ok tt) e ne = absurd (ne refl)
    go (Err r) e ne = run_refused im events r e

-- where the tests of a run show no fault it is not refused as a whole
run_fine : (im events : List ℕ) → due (run_tests im events) ≡ 0 → check_run im events ≡ Ok tt
run_fine im events e = (zero_is (check_run im events)).0 (run_due im events ∙ e)

-- the number of a plan's size
size_numbered : (plan : List ℕ) → size_number (plan_size plan) ≡ verdict_number (check_plan plan)
unfolding plan_size
size_numbered plan = go (check_plan plan)
  where
    go : (v : Result ⊤ Refusal) → size_number (size_as v plan) ≡ verdict_number v
    go (Ok tt) = refl
    go (Err r) = refl

demand1 : Demand1
demand1 =
    record {
      checks = λ im number p. p.answered ∙ image_due im;
      measures = λ plan answer p. p.numbered ∙ size_numbered plan ∙ plan_due plan;
      builds = λ plan target number after p.
          (p.answered ∙ build_due plan target, λ ne. p.left ∙ build_unchanged plan target (rw p.answered at ne));
      happens = λ im k d c answer after p.
          (p.numbered ∙ call_due im k d c, λ ne. p.left ∙ refused_unchanged im k d c (rw p.numbered at ne));
      runs = λ im events answer after p ne.
          let r = run_unchanged im events (λ e. ne (sym (run_due im events) ∙ e)) in
          (p.numbered ∙ ap (λ (x : Ran). verdict_number x.stop) r ∙ run_due im events, p.counted ∙ ap (λ (x : Ran). x.taken) r, p.left ∙ ap (λ (x : Ran). x.image) r);
      keeps = λ im events answer after p e ne.
          let f = run_fine im events e in
          let l = stops im events answer after p f ne in
          (is_calls im events answer after p f, l.0, l.1 ∙ call_due after _ _ _);
    }

-- a plan without fault gives its size and the fresh image
plan_words : (plan : List ℕ) → check_plan plan ≡ Ok tt → plan_size plan ≡ Ok (total (plan_shape plan))
unfolding plan_size
plan_words plan e = rw e

build_fresh : (plan target : List ℕ) → check_build plan target ≡ Ok tt → (built plan target ≡ fresh plan) × (check_plan plan ≡ Ok tt)
unfolding built check_build
build_fresh plan target e = (rw e, (then_fine (check_plan plan) _ e).0)

-- an image on which an event is accepted passes the check
accepted_checked : (im : List ℕ) (k d c : ℕ) → reply_number (event im k d c).reply ≡ 0 → check im ≡ Ok tt
unfolding event
accepted_checked im k d c = go (check im)
  where
    go : (v : Result ⊤ Refusal) → reply_number (event_if v im k d c).reply ≡ 0 → v ≡ Ok tt
    go (Ok tt) e = refl
    go (Err r) e = (zero_is (Err r)).0 e

passing : (im : List ℕ) → check im ≡ Ok tt → Checks im 0
passing im e = record { answered = rw e }

passed : (im : List ℕ) → Checks im 0 → Good (shape_of im) im
passed im w = (check_zero im).0 (sym w.answered)

-- a tick on a good image
ticks : (s : Shape) (im : List ℕ) → Good s im → event im 0 0 0 ≡ accepting (tick s im)
unfolding event_of happening
ticks s im g = event_is s im g 0 0 0

-- whose first task asks for a service
module _ (s : Shape) (im : List ℕ) (v : Service) (answer : Result Answer Refusal) (after : List ℕ) (w : Asks s im v answer after) where
  good : Good s im
  good = rw w.shape ((check_zero im).0 (sym w.passes.answered))

  told : answer ≡ Ok (tick s im).answer
  told = w.ticks.answered ∙ ap (λ (o : Outcome). o.reply) (ticks s im good)

  left : after ≡ (tick s im).image
  left = w.ticks.left ∙ ap (λ (o : Outcome). o.image) (ticks s im good)

demand2 : Demand2
demand2 =
    record {
      passes = λ im number p. rw p.answered (check_zero im);
      refused = λ im k d c answer after w p.
          rw (p.answered, event_is (shape_of im) im (passed im w) k d c) (exactly (shape_of im) im (event_of (shape_of im) k d c));
      every_tick = λ im answer after w p. p.numbered ∙ ap (λ (o : Outcome). reply_number o.reply) (ticks (shape_of im) im (passed im w));
      measured = λ plan answer p e. p.answered ∙ plan_words plan ((zero_is (check_plan plan)).0 (plan_due plan ∙ e));
      built = λ plan target number after p e.
          let f = build_fresh plan target ((zero_is (check_build plan target)).0 (build_due plan target ∙ e)) in
          (p.answered ∙ build_due plan target ∙ e, p.left ∙ f.0, rw (p.left, f.0) (passing (fresh plan) (fresh_checked plan f.1)));
      happened = λ im k d c answer after p e.
          let g = checked_good im (accepted_checked im k d c (call_due im k d c ∙ e)) in
          let o = event_is (shape_of im) im g k d c in (
            p.answered ∙ ap (λ (x : Outcome). x.reply) o,
            p.left ∙ ap (λ (x : Outcome). x.image) o,
            rw (p.left, o) (passing _ (good_checked (shape_of im) _ (words_good (shape_of im) im g k d c))),
          );
      ran = λ im events answer after p e none.
          let f = run_fine im events e in
          (is_calls im events answer after p f, took_whole im events answer after p f none);
      waiting = λ s im v answer after w right stuck.
          let g = good s im v answer after w in
          let t = asked_waits s im g w.some w.runs v w.asks right stuck in
          rw (told s im v answer after w, left s im v answer after w) (ap kind t.0, t.1);
      stays = λ events count c w i v hi waits n h none.
          let s = shape_of (c.image 0) in
          let g = passed (c.image 0) w in
          let u = calls_stay s c.image (word_of events) c.reply count g c.kept i hi v waits n h none in
          let end = calls_good s c.image (word_of events) c.reply count g c.kept n h in
          (u, listed_none s (c.image n) (good_listed end) i hi (λ z. waits_not v (sym z ∙ u.status ∙ waits)));
      done = λ s im v answer after w right clear.
          rw (told s im v answer after w) (ap kind (asked_done s im (good s im v answer after w) w.some w.runs v w.asks right clear));
      words = λ events count c w. calls_words (shape_of (c.image 0)) c.image (word_of events) c.reply count (passed (c.image 0) w) c.kept;
    }

demand3 : Demand3
demand3 =
    record {
      formula = λ S c k. refl;
      in_calls = turn;
      in_run = λ im events answer after p e i k w.
          let r = is_calls im events answer after p (run_fine im events e) in
          (r, turn events answer.taken r.calls i k (rw r.starts w));
    }

request5 : Request5
request5 =
    record {
      wakes = λ im k d c answer after w p.
          let g = passed im w in
          rw (p.left, event_is (shape_of im) im g k d c) (wakes_exactly (shape_of im) im g (event_of (shape_of im) k d c) (event_formed (shape_of im) k d c));
      finds_room = λ im k d c w. wake_finds_room (shape_of im) im (passed im w) (event_of (shape_of im) k d c) (event_formed (shape_of im) k d c);
    }

-- what an event leaves of a good image is good
stays_good : (im : List ℕ) (k d c : ℕ) (answer : Result Answer Refusal) (after : List ℕ) → Checks im 0 → Happens im k d c answer after → Good (shape_of im) after
stays_good im k d c answer after w p =
    let g = passed im w in
    rw (p.left, event_is (shape_of im) im g k d c) (words_good (shape_of im) im g k d c)

request6 : Request6
request6 =
    record {
      slots = λ im w. slots_held (shape_of im) im (passed im w);
      gone = λ im k d c answer after w p q has x _. slots_held (shape_of im) after (stays_good im k d c answer after w p) q has x;
      left = λ im k d c answer after w p x _. slots_held (shape_of im) after (stays_good im k d c answer after w p) Queue.Ready tt x;
    }

pub demands : Demands
demands =
    record { first = demand1; second = demand2; third = demand3; request_2 = request2; request_5 = request5; request_6 = request6 }

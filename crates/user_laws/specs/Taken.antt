-- What a run takes: the first events of its list, and by themselves they leave the image that it left. Assumes nothing.
use Rattle.std.specs.Prelude.{◌≡◌, refl, List, [], ◌∷◌, ◌++◌, ◌≢◌, ℕ, zero, suc, ◌-◌, ◌*◌, ◌%◌, ◌≤◌, length, Err, Ok}
use Rattle.std.proofs.Common.{ap, ◌∙◌, one-add, arith}
use Rattle.std.proofs.Math.Logic.{dite}
use Rattle.std.proofs.Math.Decide.{ℕ_discrete}
use borrow.Author.Tests.{eq-eqb, ne_eqb}
use Rattle.paper.specs.Image.{shape_of}
use Rattle.paper.specs.Events.{event_of}
use Rattle.paper.specs.Numbers.{verdict_number, check}
use Rattle.paper.specs.Calls.{Ran, stopped_at, run_from, run}
use Rattle.paper.specs.declared.Shape.{Shape}
use Rattle.paper.specs.declared.Refusal.{Refusal}
use Rattle.laws.specs.Checked.{never_fine, zero_is}
use Rattle.event_laws.specs.Walk.{happening_unchanged}
use Rattle.user_laws.specs.Folded.{run_any}

-- the first n events of a list
abbrev pub first_events : ℕ → List ℕ → List ℕ
first_events zero events = []
first_events (suc n) [] = []
first_events (suc n) (k ∷ []) = []
first_events (suc n) (k ∷ d ∷ []) = []
first_events (suc n) (k ∷ d ∷ c ∷ later) = k ∷ d ∷ c ∷ first_events n later

-- a run with all of its events taken
abbrev pub all_taken : Ran → Ran
all_taken r = record { taken = r.taken; stop = Ok tt; image = r.image }

-- the first n events and the rest are the list
pub events_after : (n : ℕ) (events : List ℕ) → (rest : List ℕ) × (first_events n events ++ rest ≡ events)
events_after zero events = (events, refl)
events_after (suc n) [] = ([], refl)
events_after (suc n) (x ∷ []) = (x ∷ [], refl)
events_after (suc n) (x ∷ y ∷ []) = (x ∷ y ∷ [], refl)
events_after (suc n) (x ∷ y ∷ z ∷ later) =
    let r = events_after n later in
    (r.0, ap {B = List ℕ} (λ (l : List ℕ). x ∷ y ∷ z ∷ l) r.1)

-- they have at most n events' words
pub events_length : (n : ℕ) (events : List ℕ) → length (first_events n events) ≤ 3 * n
events_length zero events = omega arith
events_length (suc n) [] = omega arith
events_length (suc n) (x ∷ []) = omega arith
events_length (suc n) (x ∷ y ∷ []) = omega arith
events_length (suc n) (x ∷ y ∷ z ∷ later) = omega (arith, events_length n later)

-- and are whole events
pub events_whole : (n : ℕ) (events : List ℕ) → length (first_events n events) % 3 ≡ 0
events_whole zero events = refl
events_whole (suc n) [] = refl
events_whole (suc n) (x ∷ []) = refl
events_whole (suc n) (x ∷ y ∷ []) = refl
events_whole (suc n) (x ∷ y ∷ z ∷ later) = omega (arith, events_whole n later)

module _ (s : Shape) where
  -- the events that were taken, alone
  pub taken_first : (events im : List ℕ) → run_from s im (first_events (run_from s im events).taken events) ≡ all_taken (run_from s im events)
  taken_first =
      run_any s (λ im events ran. run_from s im (first_events ran.taken events) ≡ all_taken ran) (λ im. refl) (λ im k. refl) (λ im k d. refl)
      (λ im x y z later a e ih. rw (one-add, e, ih, one-add)) (λ im x y z later r e. rw (happening_unchanged s im (event_of s x y z) r e))

  -- where all events are accepted, those of a prefix are, and are taken
  pub prefix_taken : (part rest im : List ℕ) (n : ℕ) → (run_from s im (part ++ rest)).stop ≡ Ok tt → length part ≡ 3 * n
      → ((run_from s im part).stop ≡ Ok tt) × ((run_from s im part).taken ≡ n)
  prefix_taken part rest im n f w =
      run_any s (λ im part ran. (n : ℕ) → (run_from s im (part ++ rest)).stop ≡ Ok tt → length part ≡ 3 * n → (ran.stop ≡ Ok tt) × (ran.taken ≡ n))
      (λ im n f w. (refl, omega arith)) (λ im k n f w. absurd (let l : 1 ≡ 3 * n = w in omega arith)) (λ im k d n f w. absurd (let l : 2 ≡ 3 * n = w in omega arith))
      (λ im x y z later a e ih n f w.
      let l : suc (suc (suc (length later))) ≡ 3 * n = w in
      let h = ih (n - 1) (rw e at f) (omega arith) in
      (h.0, omega (arith, h.1, l)))
      (λ im x y z later r e n f w. absurd (never_fine r (rw e at f))) part im n f w

  -- and the events that were taken are the whole list
  pub taken_all : (events im : List ℕ) → (run_from s im events).stop ≡ Ok tt → first_events (run_from s im events).taken events ≡ events
  taken_all =
      run_any s (λ im events ran. ran.stop ≡ Ok tt → first_events ran.taken events ≡ events) (λ im f. refl)
      (λ im k f. absurd (never_fine _ f)) (λ im k d f. absurd (never_fine _ f)) (λ im x y z later a e ih f. rw (one-add, ih f)) (λ im x y z later r e f. absurd (never_fine r f))

-- a run on an image that passes the check goes over its list, where that is of whole events
pub run_whole : (im : List ℕ) → check im ≡ Ok tt → (events : List ℕ) → length events % 3 ≡ 0 → run im events ≡ run_from (shape_of im) im events
unfolding run
run_whole im fine events w = rw (fine, eq-eqb (length events % 3) 0 w)

module _ (im : List ℕ) (fine : check im ≡ Ok tt) (events : List ℕ) where
  -- and is refused where it is not
  pub run_broken : length events % 3 ≢ 0 → run im events ≡ stopped_at (Err Refusal.MalformedEvent) im
  unfolding run
  run_broken w = rw (fine, ne_eqb (length events % 3) 0 w)

  -- the events that were taken, run alone: all are taken, the number is 0, and the image is the one that the run left
  pub run_taken : run im (first_events (run im events).taken events) ≡ all_taken (run im events)
  run_taken =
      dite (ℕ_discrete (length events % 3) 0)
      (λ w.
      rw (run_whole im fine events w)
      (run_whole im fine (first_events (run_from (shape_of im) im events).taken events) (events_whole (run_from (shape_of im) im events).taken events) ∙
      taken_first (shape_of im) events im))
      (λ w. rw (run_broken w) (run_whole im fine [] refl))

  -- with number 0 they are the whole list
  pub run_all : verdict_number (run im events).stop ≡ 0 → first_events (run im events).taken events ≡ events
  run_all e =
      let f : (run im events).stop ≡ Ok tt = (zero_is (run im events).stop).0 e in
      dite (ℕ_discrete (length events % 3) 0) (λ w. rw (run_whole im fine events w) (taken_all (shape_of im) events im (rw (run_whole im fine events w) at f)))
      (λ w. absurd (never_fine Refusal.MalformedEvent (rw (run_broken w) at f)))

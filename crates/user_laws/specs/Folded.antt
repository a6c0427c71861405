-- A run is its events one after another: the fold of event. A refusal alters nothing. Assumes nothing.
use Rattle.std.specs.Prelude.{◌≡◌, refl, List, [], ◌∷◌, not, ℕ, ◌%◌, eqb, length, Err, Ok, Result, ⊤}
use Rattle.std.proofs.Common.{ap}
use Rattle.paper.specs.Image.{shape_of}
use Rattle.paper.specs.Events.{event_of, happening}
use Rattle.paper.specs.Numbers.{check, refused_if}
use Rattle.paper.specs.Rules.{Good}
use Rattle.paper.specs.Calls.{Ran, event_if, event, stopped_at, one_more, goes_on, run_from, check_run, run}
use Rattle.paper.specs.declared.Shape.{Shape}
use Rattle.paper.specs.declared.Answer.{Answer}
use Rattle.paper.specs.declared.Refusal.{Refusal}
use Rattle.laws.specs.Layout.{shape_is}
use Rattle.laws.specs.Checked.{checked_good, good_checked, then_fine}
use Rattle.event_laws.proofs.Stays.{words_good}
use Rattle.event_laws.specs.Walk.{happening_unchanged}

-- events one after another, each by a call of its own, up to the first refused one
abbrev pub each_event : List ℕ → List ℕ → Ran
each_event im [] = stopped_at (Ok tt) im
each_event im (k ∷ []) = stopped_at (Err Refusal.MalformedEvent) im
each_event im (k ∷ d ∷ []) = stopped_at (Err Refusal.MalformedEvent) im
each_event im (k ∷ d ∷ c ∷ events) = goes_on (event im k d c).reply (event im k d c).image (λ next. each_event next events)

-- on a good image an event is what happens
pub event_is : (s : Shape) (im : List ℕ) → Good s im → (k d c : ℕ) → event im k d c ≡ happening s im (event_of s k d c)
unfolding event
event_is s im g k d c = rw (good_checked s im g, shape_is s im g.laid)

-- whatever holds of a run of no event, of words that are none, of one more event and of a refused one holds of every run
pub run_any : (s : Shape) (P : List ℕ → List ℕ → Ran → Type 0) → ((im : List ℕ) → P im [] (stopped_at (Ok tt) im))
    → ((im : List ℕ) (k : ℕ) → P im (k ∷ []) (stopped_at (Err Refusal.MalformedEvent) im))
    → ((im : List ℕ) (k d : ℕ) → P im (k ∷ d ∷ []) (stopped_at (Err Refusal.MalformedEvent) im))
    → ((im : List ℕ) (k d c : ℕ) (later : List ℕ) (a : Answer) → (happening s im (event_of s k d c)).reply ≡ Ok a
    → P (happening s im (event_of s k d c)).image later (run_from s (happening s im (event_of s k d c)).image later)
    → P im (k ∷ d ∷ c ∷ later) (one_more (run_from s (happening s im (event_of s k d c)).image later)))
    → ((im : List ℕ) (k d c : ℕ) (later : List ℕ) (r : Refusal) → (happening s im (event_of s k d c)).reply ≡ Err r
    → P im (k ∷ d ∷ c ∷ later) (stopped_at (Err r) (happening s im (event_of s k d c)).image))
    → (events im : List ℕ) → P im events (run_from s im events)
run_any s P none one two more last [] im = none im
run_any s P none one two more last (k ∷ []) im = one im k
run_any s P none one two more last (k ∷ d ∷ []) im = two im k d
run_any s P none one two more last (k ∷ d ∷ c ∷ later) im =
    go (happening s im (event_of s k d c)).reply refl (run_any s P none one two more last later (happening s im (event_of s k d c)).image)
  where
    m : List ℕ
    m = (happening s im (event_of s k d c)).image

    go : (r : Result Answer Refusal) → (happening s im (event_of s k d c)).reply ≡ r → P m later (run_from s m later) → P im (k ∷ d ∷ c ∷ later) (goes_on r m (λ next. run_from s next later))
    go (Ok a) e ih = more im k d c later a e ih
    go (Err r) e ih = last im k d c later r e

-- events from a good image are calls of event, one after another
pub from_folds : (s : Shape) (im : List ℕ) → Good s im → (events : List ℕ) → run_from s im events ≡ each_event im events
from_folds s im g events =
    run_any s (λ im events ran. Good s im → ran ≡ each_event im events) (λ im g. refl) (λ im k g. refl) (λ im k d g. refl)
    (λ im k d c later a e ih g. rw (event_is s im g k d c, e) (ap one_more (ih (words_good s im g k d c)))) (λ im k d c later r e g. rw (event_is s im g k d c, e)) events im g

-- a run that is not refused as a whole is of an image that passes the check, and is the fold of event
checked_first : (im events : List ℕ) → check_run im events ≡ Ok tt → check im ≡ Ok tt
checked_first im events e =
    (then_fine (check im) (refused_if (not (eqb (length events % 3) 0)) Refusal.MalformedEvent (Ok tt)) e).0

pub run_folds : (im events : List ℕ) → check_run im events ≡ Ok tt → run im events ≡ each_event im events
unfolding run
run_folds im events e = rw e (from_folds (shape_of im) im (checked_good im (checked_first im events e)) events)

-- a refused event alters nothing
pub event_unchanged : (im : List ℕ) (k d c : ℕ) (r : Refusal) → (event im k d c).reply ≡ Err r → (event im k d c).image ≡ im
unfolding event
event_unchanged im k d c r = go (check im)
  where
    go : (v : Result ⊤ Refusal) → (event_if v im k d c).reply ≡ Err r → (event_if v im k d c).image ≡ im
    go (Ok tt) told = happening_unchanged (shape_of im) im (event_of (shape_of im) k d c) r told
    go (Err q) told = refl

-- a refused run takes 0 and alters nothing
pub run_refused : (im events : List ℕ) (r : Refusal) → check_run im events ≡ Err r → run im events ≡ stopped_at (Err r) im
unfolding run
run_refused im events r e = rw e

-- The calls: build, event and run, on any words; a refusal alters nothing.
use Rattle.std.specs.Prelude.{List, [], ◌∷◌, not, ℕ, ◌+◌, ◌%◌, eqb, length, Err, Ok, Result, ⊤}
use Rattle.paper.specs.Image.{total, shape_of}
use Rattle.paper.specs.Waking.{Outcome, refused}
use Rattle.paper.specs.Events.{event_of, happening}
use Rattle.paper.specs.Plans.{plan_shape, fresh}
use Rattle.paper.specs.Numbers.{number, and_then, refused_if, check, check_plan, check_build}
use Rattle.paper.specs.declared.Shape.{Shape}
use Rattle.paper.specs.declared.Refusal.{Refusal}
use Rattle.paper.specs.declared.Answer.{Answer}

-- the words that an accepted plan needs
abbrev pub size_as : Result ⊤ Refusal → List ℕ → Result ℕ Refusal
size_as (Ok tt) plan = Ok (total (plan_shape plan))
size_as (Err r) plan = Err r

unfoldable pub plan_size : List ℕ → Result ℕ Refusal
plan_size plan = size_as (check_plan plan) plan

-- its number and value: 0 and T, or the refusal's number and 0
abbrev pub size_number : Result ℕ Refusal → ℕ
size_number (Ok n) = 0
size_number (Err r) = number r

abbrev pub size_value : Result ℕ Refusal → ℕ
size_value (Ok n) = n
size_value (Err r) = 0

-- building: the verdict, and the target after it
abbrev pub built_as : Result ⊤ Refusal → List ℕ → List ℕ → List ℕ
built_as (Ok tt) plan target = fresh plan
built_as (Err r) plan target = target

unfoldable pub built : List ℕ → List ℕ → List ℕ
built plan target = built_as (check_build plan target) plan target

-- images are tested 1 to 6, then the event 7 to 9
abbrev pub event_if : Result ⊤ Refusal → List ℕ → ℕ → ℕ → ℕ → Outcome
event_if (Ok tt) im k d c = happening (shape_of im) im (event_of (shape_of im) k d c)
event_if (Err r) im k d c = refused r im

unfoldable pub event : List ℕ → ℕ → ℕ → ℕ → Outcome
event im k d c = event_if (check im) im k d c

-- a run: how many events were taken, where it stopped, and the image that holds exactly those
pub record Ran : Type 0 where
  pub taken : ℕ
  pub stop : Result ⊤ Refusal
  pub image : List ℕ

abbrev pub stopped_at : Result ⊤ Refusal → List ℕ → Ran
stopped_at v im = record { taken = 0; stop = v; image = im }

abbrev pub one_more : Ran → Ran
one_more r = record { taken = 1 + r.taken; stop = r.stop; image = r.image }

abbrev pub goes_on : Result Answer Refusal → List ℕ → (List ℕ → Ran) → Ran
goes_on (Ok a) im later = one_more (later im)
goes_on (Err r) im later = stopped_at (Err r) im

-- events one after another, up to the first refused one; a last one of under three words, which only the runner can meet, is refused
abbrev pub run_from : Shape → List ℕ → List ℕ → Ran
run_from s im [] = stopped_at (Ok tt) im
run_from s im (k ∷ []) = stopped_at (Err Refusal.MalformedEvent) im
run_from s im (k ∷ d ∷ []) = stopped_at (Err Refusal.MalformedEvent) im
run_from s im (k ∷ d ∷ c ∷ events) =
    goes_on (happening s im (event_of s k d c)).reply (happening s im (event_of s k d c)).image (λ next. run_from s next events)

-- a run checks the image and its list's length first; a refused run takes 0
abbrev pub check_run : List ℕ → List ℕ → Result ⊤ Refusal
check_run im events =
    and_then (check im) (refused_if (not (eqb (length events % 3) 0)) Refusal.MalformedEvent (Ok tt))

abbrev pub run_if : Result ⊤ Refusal → List ℕ → List ℕ → Ran
run_if (Ok tt) im events = run_from (shape_of im) im events
run_if (Err r) im events = stopped_at (Err r) im

unfoldable pub run : List ℕ → List ℕ → Ran
run im events = run_if (check_run im events) im events

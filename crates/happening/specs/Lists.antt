-- A list of events taken one by one, with the reply of the last.
use Rattle.std.specs.Prelude.{◌≡◌, List, [], ◌∷◌, ℕ, ◌+◌, ◌*◌, get_or, Err, Ok, Result, ⊤}
use Rattle.paper.specs.Events.{event_of, happening}
use Rattle.paper.specs.declared.Shape.{Shape}
use Rattle.paper.specs.declared.Event.{Event}
use Rattle.paper.specs.declared.Answer.{Answer}
use Rattle.paper.specs.declared.Refusal.{Refusal}

-- event k of a list
unfoldable pub nth_event : Shape → List ℕ → ℕ → Event
nth_event s events k = event_of s (get_or events (3 * k) 0) (get_or events (3 * k + 1) 0) (get_or events (3 * k + 2) 0)

-- how many events were taken, the reply of the last or of the refused one, and the image after them
pub record Toll : Type 0 where
  pub taken : ℕ
  pub last : Result Answer Refusal
  pub image : List ℕ

-- no event more
abbrev pub ended : Result Answer Refusal → List ℕ → Toll
ended last im = record { taken = 0; last = last; image = im }

-- k events, and then what comes of the others
abbrev pub counted : ℕ → Toll → Toll
counted n r = record { taken = n; last = r.last; image = r.image }

abbrev pub onward : ℕ → Toll → Toll
onward k r = counted (k + r.taken) r

-- a refusal ends the list, an answer goes on
abbrev pub tells_on : Result Answer Refusal → List ℕ → (List ℕ → Toll) → Toll
tells_on (Ok a) im later = onward 1 (later im)
tells_on (Err f) im later = ended (Err f) im

-- the events of a list from an image on, with the reply of the event before them
abbrev pub told_from : Shape → List ℕ → List ℕ → Result Answer Refusal → Toll
told_from s im [] last = ended last im
told_from s im (k ∷ []) last = ended last im
told_from s im (k ∷ d ∷ []) last = ended last im
told_from s im (k ∷ d ∷ c ∷ events) last =
    let o = happening s im (event_of s k d c) in
    tells_on o.reply o.image (λ next. told_from s next events o.reply)

-- the verdict that a run ends with
abbrev pub stop_of : Result Answer Refusal → Result ⊤ Refusal
stop_of (Ok a) = Ok tt
stop_of (Err f) = Err f

-- the events of a list come to n taken ones, a last reply and an image
unfoldable pub Ends : Shape → List ℕ → List ℕ → ℕ → Result Answer Refusal → List ℕ → Type 0
Ends s im events n last out = told_from s im events (Ok Answer.Idle) ≡ counted n (ended last out)

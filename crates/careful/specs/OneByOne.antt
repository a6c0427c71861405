-- Events counted one by one; shut, as contracts say it.
use Rattle.std.specs.Prelude.{◌≡◌, List, ℕ, Result, ⊤}
use Rattle.paper.specs.Counts.{counted_event, report_from}
use Rattle.paper.specs.declared.Shape.{Shape}
use Rattle.paper.specs.declared.Event.{Event}
use Rattle.paper.specs.declared.Answer.{Answer}
use Rattle.paper.specs.declared.Refusal.{Refusal}

-- a counted event comes to a reply, an image and counts
unfoldable pub CountsOne : Shape → List ℕ → List ℕ → Event → Result Answer Refusal → List ℕ → List ℕ → Type 0
CountsOne s im counts e reply out more = counted_event s im counts e ≡ record { reply = reply; image = out; counts = more }

-- counted events one after another come to so many taken, a stop, an image and counts
unfoldable pub CountsAll : Shape → List ℕ → List ℕ → List ℕ → ℕ → Result ⊤ Refusal → List ℕ → List ℕ → Type 0
CountsAll s im counts events taken stop out more = report_from s im counts events ≡ record { taken = taken; stop = stop; image = out; counts = more }

-- The counts after a list of events taken one by one.
use Rattle.std.specs.Prelude.{◌≡◌, List, [], ◌∷◌, ℕ, Err, Ok, Result}
use Rattle.paper.specs.Events.{event_of, happening}
use Rattle.paper.specs.Counts.{tally, counted}
use Rattle.paper.specs.declared.Shape.{Shape}
use Rattle.paper.specs.declared.Answer.{Answer}
use Rattle.paper.specs.declared.Refusal.{Refusal}

-- an accepted event is counted, a refused one ends the list
abbrev pub counts_on : Result Answer Refusal → List ℕ → List ℕ → (List ℕ → List ℕ → List ℕ) → List ℕ
counts_on (Ok a) im counts later = later im (counted counts (tally a))
counts_on (Err f) im counts later = counts

-- the counts after the events of a list from an image on
abbrev pub counts_from : Shape → List ℕ → List ℕ → List ℕ → List ℕ
counts_from s im [] counts = counts
counts_from s im (k ∷ []) counts = counts
counts_from s im (k ∷ d ∷ []) counts = counts
counts_from s im (k ∷ d ∷ c ∷ events) counts =
    let o = happening s im (event_of s k d c) in
    counts_on o.reply o.image counts (λ next more. counts_from s next events more)

-- the counts come to these
unfoldable pub Tallies : Shape → List ℕ → List ℕ → List ℕ → List ℕ → Type 0
Tallies s im events counts more = more ≡ counts_from s im events counts

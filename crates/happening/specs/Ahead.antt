-- Words that are 0 one after another, which events that are ticks are made of.
use Rattle.std.specs.Prelude.{◌≡◌, List, Bool, true, false, ◌&&◌, ℕ, zero, suc, ◌+◌, ◌*◌, ◌<◌, ◌≤◌, eqb, get_or}

-- whether n words from a place on are 0
unfoldable pub zeros_at : List ℕ → ℕ → ℕ → Bool
zeros_at l from zero = true
zeros_at l from (suc n) = zeros_at l from n && eqb (get_or l (from + n) 0) 0

-- the words of the events from one to another are 0; shut, as contracts say it
unfoldable pub Ahead : List ℕ → ℕ → ℕ → Type 0
Ahead l from to = (k : ℕ) → 3 * from ≤ k → k < 3 * to → get_or l k 0 ≡ 0

-- where ticks end before a list does, the event is no tick; shut, as contracts say it
unfoldable pub Stops : List ℕ → ℕ → ℕ → Type 0
Stops l to count = to < count → zeros_at l (3 * to) 3 ≡ false

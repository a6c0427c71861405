-- Counts with room for so many more ticks; shut, as contracts say it. Where an answer is counted.
use Rattle.std.specs.Prelude.{List, Bool, true, false, ℕ, ◌+◌, ◌<◌, ◌≤◌, length, get_or, Option, Some, None}
use Rattle.paper.specs.Counts.{most_count, idle_count, count_place}
use Rattle.paper.specs.declared.Tally.{Tally}

-- the count at a place, if it is there, may grow by n
unfoldable pub RoomAt : List ℕ → ℕ → ℕ → Type 0
RoomAt counts k n = k < length counts → get_or counts k 0 + n ≤ most_count

-- each of them may
unfoldable pub Room : List ℕ → ℕ → Type 0
Room counts n = (k : ℕ) → RoomAt counts k n

-- where a test says so
unfoldable pub RoomIf : Bool → List ℕ → ℕ → Type 0
RoomIf true counts n = Room counts n
RoomIf false counts n = Unit {0}

-- none is above m
unfoldable pub AllUpto : List ℕ → ℕ → Type 0
AllUpto counts m = (k : ℕ) → k < length counts → get_or counts k 0 ≤ m

-- the place of the count where an answer is counted, if it is
abbrev pub tally_place : Tally → Option ℕ
tally_place Tally.Nowhere = None
tally_place Tally.Idle = Some idle_count
tally_place (Tally.Under i h) = Some (count_place i h)

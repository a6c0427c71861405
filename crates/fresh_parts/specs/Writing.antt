-- What a call that writes words of an image asks, and what it leaves.
use Rattle.std.specs.Prelude.{◌≡◌, List, ◌∷◌, ℕ, ◌+◌, ◌≤◌, length, replicate}
use Rattle.paper.specs.declared.Place.{Place}
use Rattle.writes.specs.Written.{written}

-- there is room for these words from a place on
abbrev pub RoomFor : List ℕ → Place → List ℕ → Type 0
RoomFor out at vs = at.0 + length vs ≤ length out

-- they are written from there on, and where the next word goes is answered
abbrev pub Wrote : List ℕ → Place → List ℕ → List ℕ → Place → Type 0
Wrote o at vs out next = (next.0 ≡ at.0 + length vs) × (out ≡ written o at.0 vs)

-- a fresh task: R1 = L, all else 0
abbrev pub fresh_task : ℕ → List ℕ
fresh_task l = 0 ∷ l ∷ replicate 7 0

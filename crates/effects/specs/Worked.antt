-- What is told of an order; shut, as contracts say it.
use Rattle.std.specs.Prelude.{◌≡◌, List, ◌⊎◌, ℕ, ◌+◌, ◌<◌, ◌≤◌, get_or}
use Rattle.effects.specs.Parts.{Lent, stood_at, part_ordered}
use Rattle.effects.specs.declared.Aim.{Aim}
use Rattle.effects.specs.declared.Segment.{Segment}
use Rattle.effects.specs.declared.Went.{Went}

-- R0 is in hand; no error, and nothing pending
unfoldable pub InHand : Segment → List ℕ → Aim → Type 0
InHand g p x = Lent g p × (get_or p 8 0 < 4) × (g.from ≤ x.0) × (x.0 < g.from + 65536)

-- the order at x was carried out
unfoldable pub Carried : Segment → List ℕ → Aim → List ℕ → Type 0
Carried g p x out = out ≡ part_ordered g (stood_at g p x)

-- it left an error or a service pending
abbrev pub Loud : List ℕ → Type 0
Loud out = 4 ≤ get_or out 8 0

-- what became of an order that faults
unfoldable pub Fell : Segment → List ℕ → Aim → Went → List ℕ → Type 0
Fell g p x r out = (r ≡ Went.Off) × Carried g p x out × Loud out

-- what became of an order that writes no register that a field names
unfoldable pub Done : Segment → List ℕ → Aim → Went → List ℕ → Type 0
Done g p x (Went.On y) out = Carried g p x (stood_at g out y) × InHand g out y
Done g p x Went.Off out = Carried g p x out × Loud out
Done g p x (Went.Left w) out = ⊥

-- and of one that may write register a: R0 stands in the part where that is it
unfoldable pub Worked : Segment → List ℕ → Aim → ℕ → Went → List ℕ → Type 0
Worked g p x a (Went.On y) out = Done g p x (Went.On y) out
Worked g p x a Went.Off out = Carried g p x out × (Loud out ⊎ (a ≡ 0))
Worked g p x a (Went.Left w) out = ⊥

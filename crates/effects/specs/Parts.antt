-- The part that is lent: where the machine's words lie in it, R0 in hand, and the part after an order.
use Rattle.std.specs.Prelude.{cond, List, ℕ, ◌-◌, ◌<◌, ◌≤◌, ltb, length, set, Option, Some, None}
use Rattle.paper.specs.Machines.{Machine, Lies, machine, put_back}
use Rattle.paper.specs.Orders.{decided, after}
use Rattle.effects.specs.declared.Aim.{Aim}
use Rattle.effects.specs.declared.PartPlace.{PartPlace}
use Rattle.effects.specs.declared.Segment.{Segment}

-- the row comes first, the segment lies further on
abbrev pub lies_of : Segment → Lies
lies_of g = record { row = 0; base = g.from; length = g.to - g.from }

-- the part holds both; shut, as contracts say it
unfoldable pub Lent : Segment → List ℕ → Type 0
Lent g p = (9 ≤ g.from) × (g.from < g.to) × (g.to ≤ length p) × (g.to ≤ 32768)

-- what is reached where an address leads
abbrev pub reach_of : Segment → Aim → Option PartPlace
reach_of g x = cond (ltb x.0 g.to) (Some (record { 0 = x.0 })) None

-- the address that leads there
abbrev pub address_of : Segment → Aim → ℕ
address_of g x = x.0 - g.from

-- the part with R0, which is in hand, written; and the machine of it
abbrev pub stood_at : Segment → List ℕ → Aim → List ℕ
stood_at g p x = set p 0 (address_of g x)

abbrev pub machine_of : Segment → List ℕ → Aim → Machine
machine_of g p x = machine (lies_of g) (stood_at g p x)

-- the part after one order
unfoldable pub part_ordered : Segment → List ℕ → List ℕ
part_ordered g p =
    let m = machine (lies_of g) p in
    put_back (lies_of g) p (after m (decided m))

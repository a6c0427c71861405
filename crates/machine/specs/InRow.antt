-- Orders in a row: the part after them, which order ends the row, and how many it has.
use Rattle.std.specs.Prelude.{Bool, false, cond, ◌||◌, List, ℕ, zero, suc, ◌+◌, eqb, leb, get_or, None, Option, Some}
use Rattle.paper.specs.Orders.{op_of, a_of, b_of, order_of, shape_of_order}
use Rattle.paper.specs.declared.Field.{Field}
use Rattle.effects.specs.Parts.{part_ordered}
use Rattle.effects.specs.declared.Segment.{Segment}

-- the part after k orders
abbrev pub part_after : Segment → List ℕ → ℕ → List ℕ
part_after g p zero = p
part_after g p (suc k) = part_ordered g (part_after g p k)

-- a field of an order names R0
abbrev is_next : Field → ℕ → Bool
is_next Field.Unused r = false
is_next Field.Register r = eqb r 0
is_next Field.Condition r = false
is_next Field.Service r = false

abbrev pub names_next : Option (ℕ × Field × Field) → ℕ → Bool
names_next None w = false
names_next (Some (n, fa, fb)) w = is_next fa (a_of w) || is_next fb (b_of w)

-- an order ends its row: it faults or asks for a service, or a field of it names R0
unfoldable pub ends_row : Segment → List ℕ → Bool
ends_row g p =
    let w = get_or p (g.from + get_or p 0 0) 0 in
    leb 4 (get_or (part_ordered g p) 8 0) || names_next (shape_of_order (order_of (op_of w))) w

-- how many orders a row has, of at most n
unfoldable pub row_length : Segment → List ℕ → ℕ → ℕ
row_length g p zero = 0
row_length g p (suc n) = suc (cond (ends_row g p) 0 (row_length g (part_ordered g p) n))

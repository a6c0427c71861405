-- What is told of an order that is fetched; shut, as contracts say it.
use Rattle.std.specs.Prelude.{◌≡◌, List, true, false, ℕ, ◌<◌, get_or}
use Rattle.paper.specs.Orders.{op_of, order_of, two_registers, shape_of_order}
use Rattle.order_table.specs.Entries.{entry_of, decoded, FitsEntry}
use Rattle.effects.specs.Parts.{stood_at}
use Rattle.effects.specs.Worked.{Carried, Done}
use Rattle.effects.specs.declared.Aim.{Aim}
use Rattle.effects.specs.declared.Segment.{Segment}
use Rattle.effects.specs.declared.Went.{Went}
use Rattle.machine.specs.InRow.{ends_row}

-- the order at x has the first word w, with no bit that its entry wants 0; its count of words and its fields are those that its entry says
unfoldable pub Fetched : Segment → List ℕ → Aim → ℕ → Type 0
Fetched g p x w =
    (x.0 < g.to) × (w ≡ get_or p x.0 0) × FitsEntry w × (decoded (entry_of w) ≡ shape_of_order (order_of (op_of w)))

-- what became of any order, which ends its row or does not; an order of two registers, of which one is R0, is left
unfoldable pub After : Segment → List ℕ → Aim → Went → List ℕ → Type 0
After g p x (Went.On y) out = Done g p x (Went.On y) out × (ends_row g (stood_at g p x) ≡ false)
After g p x Went.Off out = Carried g p x out × (ends_row g (stood_at g p x) ≡ true)
After g p x (Went.Left w) out =
    (out ≡ p) × Fetched g p x w × (decoded (entry_of w) ≡ two_registers) × (ends_row g (stood_at g p x) ≡ true)

-- The cells that a tick may change: of the task table and the segments those of the first task alone, of the segment table none.
use Rattle.std.specs.Prelude.{◌≡◌, List, Bool, true, ◌||◌, ◌⊎◌, ℕ}
use Rattle.paper.specs.declared.Task.{Task}
use Rattle.paper.specs.declared.Shape.{Shape}
use Rattle.paper.specs.declared.Cell.{Cell}
use Rattle.paper.specs.declared.Part.{Part}
use Rattle.laws.specs.Changes.{turn_parts, device_parts}
use Rattle.laws.specs.Orders.{OwnCell}

-- the parts that any event may change: header, ready queue, status table, buffers and ports
abbrev pub event_parts : Part → Bool
event_parts p = device_parts p || turn_parts p

-- with the words of the first task, those that a tick may
abbrev pub TickCell : Shape → List ℕ → Task → Cell → Type 0
TickCell s im i c = (event_parts c.part ≡ true) ⊎ OwnCell s im i c

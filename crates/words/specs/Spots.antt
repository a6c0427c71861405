-- What the names in code stand for.
use Rattle.std.specs.Prelude.{◌≡◌, ◌<◌}
use Rattle.paper.specs.Image.{place, clock, reg, status, peer, busy, character}
use Rattle.paper.specs.declared.Shape.{Shape}
use Rattle.paper.specs.declared.Cell.{Cell}
use Rattle.words.specs.declared.Spot.{Spot}
use Rattle.words.specs.declared.Row.{Row}

-- the cell of a spot
abbrev pub spot_cell : Spot → Cell
spot_cell Spot.Clock = clock
spot_cell (Spot.Status i) = status i
spot_cell (Spot.Peer i) = peer i
spot_cell (Spot.Busy i) = busy i
spot_cell (Spot.Character i) = character i

-- the spot is one of an image of shape s
abbrev pub HasSpot : Shape → Spot → Type 0
HasSpot s Spot.Clock = Unit {0}
HasSpot s (Spot.Status i) = i.0 < s.n
HasSpot s (Spot.Peer i) = i.0 < s.n
HasSpot s (Spot.Busy i) = i.0 < s.n
HasSpot s (Spot.Character i) = i.0 < s.n

-- the row is that of a task of an image of shape s
pub record Rowed (s : Shape) (x : Row) : Type 0 where
  pub known : x.task.0 < s.n
  pub placed : x.place ≡ place s (reg x.task 0)

-- What a seat says of its task; shut, as contracts say it.
use Rattle.std.specs.Prelude.{◌≡◌, List, Bool, true, false, ℕ, ◌+◌, ◌-◌, length, take, drop}
use Rattle.paper.specs.Image.{at, base, len}
use Rattle.paper.specs.Queues.{empty, first}
use Rattle.paper.specs.declared.Shape.{Shape}
use Rattle.paper.specs.declared.Queue.{Queue}
use Rattle.words.specs.Spots.{Rowed}
use Rattle.ticks.specs.declared.Seat.{Seat}

-- the words of an image from a place on
abbrev pub part_of : ℕ → List ℕ → List ℕ
part_of r im = take (length im - r) (drop r im)

pub record Sits (s : Shape) (im : List ℕ) (x : Seat) : Type 0 where
  pub rowed : Rowed s x.row
  pub based : x.row.place.0 + x.segment.from ≡ at s im (base x.row.task)
  pub ends : x.segment.to ≡ x.segment.from + at s im (len x.row.task)

unfoldable pub Seated : Shape → List ℕ → Seat → Type 0
Seated s im x = Sits s im x

-- it is the seat of the first task
pub record HoldsFirst (s : Shape) (im : List ℕ) (x : Seat) : Type 0 where
  pub seated : Seated s im x
  pub some : empty s im Queue.Ready ≡ false
  pub named : first s im Queue.Ready ≡ x.row.task.0

unfoldable pub First : Shape → List ℕ → Seat → Type 0
First s im x = HoldsFirst s im x

-- where a test says so
unfoldable pub FirstIf : Bool → Shape → List ℕ → Seat → Type 0
FirstIf true s im x = First s im x
FirstIf false s im x = Unit {0}

-- How far an image is built.
use Rattle.std.specs.Prelude.{◌≡◌, List, ℕ, ◌-◌, length, get_or}
use Rattle.paper.specs.Image.{parts, begin, start, total}
use Rattle.paper.specs.Plans.{joined, fresh_part}
use Rattle.paper.specs.declared.Shape.{Shape}
use Rattle.paper.specs.declared.Part.{Part}
use Rattle.writes.specs.Written.{written}
use Rattle.writes.specs.Zeroed.{Zeroed}

-- the fresh words of the part at place k in the image's order
abbrev pub fresh_at : Shape → List ℕ → ℕ → List ℕ
fresh_at s plan k = fresh_part s plan (get_or parts k Part.Segments)

-- the parts before part k are written over o, part k begins at index at, and the words from there up to the segments are 0
pub record BuiltUpto (s : Shape) (plan : List ℕ) (k : ℕ) (o out : List ℕ) (at : ℕ) : Type 0 where
  pub here : at ≡ begin s k
  pub made : out ≡ written o 0 (joined k (fresh_at s plan))
  pub blank : Zeroed out at (start s Part.Segments - at)
  pub long : length out ≡ total s

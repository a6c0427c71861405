-- The segments of the tasks before k are right, and the next is to start at end.
use mathlib.Core.Path.{◌≡◌}
use mathlib.Core.List.{List}
use mathlib.Core.Bool.{true}
use Prim.Native.Nat.{ℕ, ◌+◌, ◌*◌, ◌≤◌}
use Rattle.paper.specs.Image.{task, segment_start}
use Rattle.paper.specs.Tests.{every}
use Rattle.paper.specs.Numbers.{segment_right}
use Rattle.paper.specs.declared.Place.{Place}
use Rattle.paper.specs.declared.Shape.{Shape}
use Rattle.headers.proofs.segments_right.Given as goal

pub record Inv (s : Shape) (im : List ℕ) (end : Place) (k : ℕ) : Type 0 where
  pub passed : every k (λ j. segment_right s im (task j)) ≡ true
  pub next : end.0 ≡ segment_start s im k
  pub small : end.0 ≤ 10646 + 65535 * k

abbrev pub invariant-loop-k : goal.invariant-loop-k
invariant-loop-k l = Inv l.s l.im l.end l.k

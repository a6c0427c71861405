-- The rules of a task, as they are tested. Assumes nothing.
use mathlib.Core.Path.{◌≡◌}
use mathlib.Core.List.{List}
use mathlib.Core.Bool.{cond}
use mathlib.Core.Logic.{◌≢◌}
use Prim.Native.Nat.{ℕ, ◌<◌}
use native.Mathlib.Omega.{arith}
use borrow.Author.Tests.{eq-eqb, ne_eqb}
use lib.Dec.{eqb}
use lib.ListN.{get_or}
use Rattle.paper.specs.Image.{at, status}
use Rattle.paper.specs.Queues.{held}
use Rattle.paper.specs.Tests.{readied_once}
use Rattle.paper.specs.declared.Task.{Task}
use Rattle.paper.specs.declared.Shape.{Shape}
use Rattle.paper.specs.declared.Queue.{Queue}
use Rattle.laws.specs.Sound.{Sized, sized_few}
use Rattle.queue_rules.specs.ReadyCounts.{AllFound}

-- a ready task is once in the ready queue, and another is not
module _ (s : Shape) (im found : List ℕ) (i : Task) (z : Sized s im) (l : i.0 < s.n) (all : AllFound found (held s im Queue.Ready)) (v k : ℕ) (ev : v ≡ i.0) (ek : k ≡ at s im (status i)) where
  once_is : eqb (get_or found v 0) (cond (eqb k 0) 1 0) ≡ readied_once s im i
  unfolding readied_once AllFound
  once_is = rw (ev, ek, all i.0 (omega (arith, sized_few s im z)))

  pub once_ready : k ≡ 0 → eqb (get_or found v 0) 1 ≡ readied_once s im i
  once_ready e = rw (eq-eqb k 0 e) at once_is

  pub once_else : k ≢ 0 → eqb (get_or found v 0) 0 ≡ readied_once s im i
  once_else ne = rw (ne_eqb k 0 ne) at once_is

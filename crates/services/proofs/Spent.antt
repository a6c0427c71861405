-- A service from an image whose clock has fallen by 1: what it asks, and what it comes to. Assumes nothing.
use Rattle.std.specs.Prelude.{Some}
use mathlib.Core.Path.{◌≡◌, refl, ◌∙◌}
use mathlib.Core.List.{List}
use mathlib.Core.Bool.{false}
use Prim.Native.Nat.{ℕ, ◌-◌}
use native.Mathlib.Omega.{arith}
use Rattle.paper.specs.Image.{at, put, clock}
use Rattle.paper.specs.Queues.{empty}
use Rattle.paper.specs.Waking.{Answered}
use Rattle.paper.specs.Services.{asked, service}
use Rattle.paper.specs.Events.{spent, acting}
use Rattle.paper.specs.declared.Task.{Task}
use Rattle.paper.specs.declared.Shape.{Shape}
use Rattle.paper.specs.declared.Queue.{Queue}
use Rattle.paper.specs.declared.Service.{Service}
use Rattle.laws.specs.Frame.{Apart, frame_none, frame_put, kept_empty}
use Rattle.laws.specs.Changes.{header_part}
use Rattle.laws.specs.Room.{Roomy, kept_roomy}

-- the clock written: the ready queue and statuses are as they were
module _ (s : Shape) (im m : List ℕ) (v : ℕ) (em : m ≡ put s im clock v) where
  clock_alone : Apart s header_part im m
  clock_alone = rw em (frame_put frame_none clock v (omega arith, omega arith) refl)

  pub still_first : empty s im Queue.Ready ≡ false → empty s m Queue.Ready ≡ false
  still_first h = kept_empty header_part clock_alone Queue.Ready tt refl ∙ h

  pub still_roomy : Roomy s im → Roomy s m
  still_roomy r = kept_roomy header_part clock_alone refl refl r

-- the clock, k, has fallen by 1, which made im into m: the service of a number, from m, is what rule 4 says
pub acts : (s : Shape) (im m : List ℕ) (i : Task) (v : Service) (k p n : ℕ) (o : Answered) → k ≡ at s im clock → m ≡ put s im clock (k - 1) → p ≡ n → asked n ≡ Some v
    → o ≡ service s m i v → o ≡ acting s im i (asked p)
unfolding spent
acts s im m i v k p n o ek em ep en eo = eo ∙ rw (ep, en, ← ek, em)

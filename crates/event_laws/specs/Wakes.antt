-- What an event that wakes a task, or none, makes of the tasks that are not ready.
use Rattle.std.specs.Prelude.{◌≡◌, List, ◌≢◌, ℕ, ◌<◌, Option, Some}
use Rattle.paper.specs.Image.{at, status}
use Rattle.paper.specs.Flags.{is_ready}
use Rattle.paper.specs.declared.Task.{Task}
use Rattle.paper.specs.declared.Shape.{Shape}
use Rattle.event_laws.specs.Whom.{Unmoved}

-- what an event that wakes w makes of im: w was not ready and is so now, and any other task that was not is as it was
pub record WakesOnly (s : Shape) (im : List ℕ) (w : Option Task) (m : List ℕ) : Type 0 where
  pub waited : (k : Task) → w ≡ Some k → (k.0 < s.n) × (at s im (status k) ≢ is_ready)
  pub becomes : (k : Task) → w ≡ Some k → at s m (status k) ≡ is_ready
  pub stays : (j : Task) → j.0 < s.n → at s im (status j) ≢ is_ready → w ≢ Some j → Unmoved s im m j

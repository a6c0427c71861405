-- The measure: how many ticks a task in the ready queue can still wait.
use Rattle.std.specs.Prelude.{List, ℕ, zero, suc, ◌+◌, ◌≤◌}
use Rattle.paper.specs.declared.Task.{Task}
use Rattle.paper.specs.declared.Shape.{Shape}
use Rattle.bound.specs.Bound.{Behind, most_ticks}

-- where it is first, none; where others are ahead, no more than the bound: the first uses up the clock and passes its turn, each one between has a slice
abbrev pub measure : Shape → List ℕ → ℕ → ℕ
measure s im zero = 0
measure s im (suc k) = most_ticks s im (suc k)

-- a task that stood with k ahead of it has come nearer to its turn: of the ticks that it could wait, so many are spent
pub record Nears (s : Shape) (im m : List ℕ) (i : Task) (k spent : ℕ) : Type 0 where
  pub ahead : ℕ
  pub stands : Behind s m i ahead
  pub falls : spent + measure s m ahead ≤ measure s im k

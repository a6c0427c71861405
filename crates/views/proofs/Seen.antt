-- What is seen of a task and of a port, from the words that code reads. Assumes nothing.
use mathlib.Core.Path.{◌≡◌}
use mathlib.Core.List.{List}
use Prim.Native.Nat.{ℕ, ◌/◌, ◌%◌}
use Rattle.paper.specs.Image.{cell, at, status, peer, busy, character}
use Rattle.paper.specs.Flags.{error_of}
use Rattle.paper.specs.declared.Task.{Task}
use Rattle.paper.specs.declared.Shape.{Shape}
use Rattle.paper.specs.declared.Part.{Part}
use Rattle.words.specs.declared.Row.{Row}
use Rattle.views.specs.Looks.{task_state, port_state}

module _ (s : Shape) (im : List ℕ) where
  -- a task's state, by its row and its status
  pub state_is : (i : Task) (x : Row) (f a p e : ℕ) → x.task ≡ i → f ≡ at s im (cell Part.TaskTable x.task.0 8) → a ≡ at s im (status i)
      → p ≡ at s im (peer i) → e ≡ error_of f → record { status = a; peer = p; cc = f % 4; error = e; pending = f / 32 } ≡ task_state s im i
  state_is i x f a p e ex ef ea ep ee = rw (ee, ef, ex, ea, ep)

  -- a port's state
  pub port_is : (d : Task) (b c : ℕ) → b ≡ at s im (busy d) → c ≡ at s im (character d) → record { busy = b; character = c } ≡ port_state s im d
  port_is d b c eb ec = rw (eb, ec)

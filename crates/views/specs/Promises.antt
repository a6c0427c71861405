-- What each call that looks into an image promises: its answer, on any words and any numbers.
use Rattle.std.specs.Prelude.{◌≡◌, List, ℕ}
use Rattle.views.specs.Looks.{View, task_view, port_view, register_view, length_view, word_view}
use Rattle.views.specs.declared.TaskState.{TaskState}
use Rattle.views.specs.declared.PortState.{PortState}

-- a task
pub record LooksAtTask (image : List ℕ) (t : ℕ) (answer : View TaskState) : Type 0 where
  pub answered : answer ≡ task_view image t

-- a port
pub record LooksAtPort (image : List ℕ) (d : ℕ) (answer : View PortState) : Type 0 where
  pub answered : answer ≡ port_view image d

-- a register of a task
pub record LooksAtRegister (image : List ℕ) (t r : ℕ) (answer : View ℕ) : Type 0 where
  pub answered : answer ≡ register_view image t r

-- how many words a queue holds
pub record LooksAtLength (image : List ℕ) (q i j : ℕ) (answer : View ℕ) : Type 0 where
  pub answered : answer ≡ length_view image q i j

-- a word of a queue
pub record LooksAtWord (image : List ℕ) (q i j k : ℕ) (answer : View ℕ) : Type 0 where
  pub answered : answer ≡ word_view image q i j k

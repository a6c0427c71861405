-- The shape of an accepted plan, and what it fixes. Assumes nothing.
use Rattle.std.specs.Prelude.{◌≡◌, List, ℕ, ◌≤◌, length, Ok}
use Rattle.paper.specs.Image.{most_tasks, size}
use Rattle.paper.specs.Plans.{fresh_part, plan_shape}
use Rattle.paper.specs.Numbers.{check_plan}
use Rattle.paper.specs.Rules.{Fit}
use Rattle.paper.specs.declared.Shape.{Shape}
use Rattle.paper.specs.declared.Part.{Part}
use Rattle.laws.specs.Fresh.{planned, part_length}

-- the shape of an accepted plan; that it has few tasks follows
pub record Plan (s : Shape) (plan : List ℕ) : Type 0 where
  pub shape : s ≡ plan_shape plan
  pub fine : check_plan plan ≡ Ok tt
  pub few : s.n ≤ most_tasks

pub accepted : (s : Shape) (plan : List ℕ) → s ≡ plan_shape plan → check_plan plan ≡ Ok tt → Plan s plan
accepted s plan es fine = record { shape = es; fine = fine; few = rw es (planned plan fine).fit.tasks.1 }

module _ (s : Shape) (plan : List ℕ) (p : Plan s plan) where
  pub plan_fit : Fit s
  plan_fit = rw p.shape (planned plan p.fine).fit

  -- the size of a part of the fresh image
  pub part_size : (q : Part) → length (fresh_part s plan q) ≡ size s q
  part_size q = rw p.shape (part_length plan p.fine q)

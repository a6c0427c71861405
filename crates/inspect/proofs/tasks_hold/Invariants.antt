-- The rules of the tasks before k hold.
use mathlib.Core.Path.{◌≡◌}
use mathlib.Core.Bool.{true}
use Rattle.paper.specs.Image.{task}
use Rattle.paper.specs.Tests.{every, task_holds}
use Rattle.inspect.proofs.tasks_hold.Given as goal

abbrev pub invariant-loop-k : goal.invariant-loop-k
invariant-loop-k l = every l.k (λ j. task_holds l.s l.im (task j)) ≡ true

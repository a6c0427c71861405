-- The count that was found tells how often the ready queue holds the task, and the status how often it must.
use native.Mathlib.Omega.{arith}
use Rattle.laws.specs.Sound.{sized_few}
use Rattle.task_rules.proofs.Tested.{once_ready, once_else}
use Rattle.task_rules.proofs.readied_once.Goals as goal

pub bounds-found-from : goal.bounds-found-from
bounds-found-from c = omega (arith, sized_few _ _ c.requires.sized)

pub returns-then-status-eq-READY : goal.returns-then-status-eq-READY
returns-then-status-eq-READY c = search once_ready

pub returns : goal.returns
returns c = search once_else

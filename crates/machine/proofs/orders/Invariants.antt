-- Each round carries out one order; the row ends where the definition says so.
use Rattle.machine.proofs.Going.{Going}
use Rattle.machine.proofs.orders.Given as goal

abbrev pub invariant-loop-done : goal.invariant-loop-done
invariant-loop-done l = Going l.g l.initial.p l.most l.done l.p l.at

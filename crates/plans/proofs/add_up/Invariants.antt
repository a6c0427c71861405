-- The pairs before k are added up.
use Rattle.plans.specs.Sizes.{Summed}
use Rattle.plans.proofs.add_up.Given as goal

abbrev pub invariant-loop-k : goal.invariant-loop-k
invariant-loop-k l = Summed l.plan l.k l.right l.words l.end

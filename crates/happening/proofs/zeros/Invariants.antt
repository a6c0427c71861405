-- After k words the answer tells whether all of these are 0.
use Prim.Native.Nat.{◌≤◌}
use mathlib.Core.Path.{◌≡◌}
use Rattle.happening.specs.Ahead.{zeros_at}
use Rattle.happening.proofs.zeros.Given as goal

abbrev pub invariant-loop-k : goal.invariant-loop-k
invariant-loop-k l = (l.right ≡ zeros_at l.l l.from l.k) × (l.k ≤ l.n)

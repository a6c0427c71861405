-- The segments before k are added up.
use mathlib.Core.Path.{◌≡◌}
use Prim.Native.Nat.{◌*◌, ◌≤◌}
use Rattle.paper.specs.Plans.{segment_words}
use Rattle.plans.proofs.words_of.Given as goal

abbrev pub invariant-loop-k : goal.invariant-loop-k
invariant-loop-k l = (l.words ≡ segment_words l.plan l.k) × (l.words ≤ 65535 * l.k)

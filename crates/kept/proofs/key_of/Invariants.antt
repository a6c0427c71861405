-- `kept::key_of` meets its contract. The loop's invariant: the sum is the number of the word from `k` on.
use mathlib.Core.Path.{◌≡◌}
use Prim.Native.Nat.{◌≤◌}
use lib.ListN.{length, drop}
use Rattle.kept.specs.Keys.{key}
use Rattle.kept.proofs.key_of.Given as goal

abbrev pub invariant-loop-k : goal.invariant-loop-k
invariant-loop-k l = (l.k ≤ length l.word) × (l.sum ≡ key (drop l.k l.word))

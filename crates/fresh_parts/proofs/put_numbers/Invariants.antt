-- The numbers before k are written.
use mathlib.Core.List.{[], ◌∷◌}
use Rattle.fresh_parts.proofs.Repeating.{FirstRows}
use Rattle.fresh_parts.proofs.put_numbers.Given as goal

abbrev pub invariant-loop-k : goal.invariant-loop-k
invariant-loop-k l = FirstRows (λ j. j ∷ []) l.initial.out l.initial.next.0 l.k l.next.0 l.out

-- The items up to the place are as salted.
use Rattle.vectors.specs.Words.{FilledTo}
use Rattle.vectors.proofs.targets.is_salted.Given as goal

abbrev pub invariant-loop-place : goal.invariant-loop-place
invariant-loop-place g l = FilledTo (λ k. g.T.Salted.salted_item k l.salt) l.from l.target l.place

-- The items up to the place are salted.
use Rattle.vectors.specs.Words.{FilledTo}
use Rattle.vectors.proofs.targets.salt_target.Given as goal

abbrev pub invariant-loop-place : goal.invariant-loop-place
invariant-loop-place g l = FilledTo (λ k. g.T.Salted.salted_item k l.salt) 0 l.target l.place

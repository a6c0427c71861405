-- The rules before k are kept.
use Rattle.breaches.proofs.Told.{KeptBefore}
use Rattle.breaches.proofs.first_broken.Given as goal

abbrev pub invariant-loop-k : goal.invariant-loop-k
invariant-loop-k l = KeptBefore l.s l.im l.k

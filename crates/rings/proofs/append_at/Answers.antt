-- The slot at the tail, the tail and the count lie in the image, and are written as in the definition.
use native.Mathlib.Omega.{arith}
use lib.ListN.{length-set}
use Rattle.rings.specs.Ring.{append_at}
use Rattle.rings.proofs.append_at.Goals as goal

pub bounds-im-at-5 : goal.bounds-im-at-5
bounds-im-at-5 c = simp length-set (omega arith)

pub bounds-im-at-6 : goal.bounds-im-at-6
bounds-im-at-6 c = simp length-set (omega arith)

pub returns : goal.returns
unfolding append_at
returns c = rw c.step.ensures

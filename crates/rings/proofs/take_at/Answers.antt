-- The word at the head is answered, and its slot, the head and the count are written as in the definition.
use mathlib.Core.Path.{refl}
use native.Mathlib.Omega.{arith}
use lib.ListN.{length-set}
use Rattle.rings.specs.Ring.{first_at, take_at}
use Rattle.rings.proofs.take_at.Goals as goal

pub bounds-im-at-4 : goal.bounds-im-at-4
bounds-im-at-4 c = simp length-set (omega arith)

pub bounds-im-at-5 : goal.bounds-im-at-5
bounds-im-at-5 c = simp length-set (omega arith)

pub returns : goal.returns
unfolding first_at take_at
returns c = rw c.step.ensures (refl, refl)

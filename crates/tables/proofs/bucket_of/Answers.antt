-- The bytes that are left, mixed from here, come to what the whole word comes to.
use Rattle.std.proofs.Common.{refl, ◌∙◌, arith}
use Rattle.tables.proofs.Laws.{mixed_goes_on, mixed_comes_to_bucket}
use Rattle.tables.proofs.bucket_of.Goals as goal

pub loop-b-init : goal.loop-b-init
loop-b-init c = (omega arith, refl)

pub loop-b-preserved : goal.loop-b-preserved
loop-b-preserved c = (omega arith, rw c.from.ensures (c.loop-b.invariant.1 ∙ mixed_goes_on _ _ _ c.loop-b-test.true))

pub returns : goal.returns
returns c = record { value = mixed_comes_to_bucket _ _ _ (omega arith) (omega arith) c.loop-b.invariant.1; upper_bound = omega arith }

-- `kept::key_of` meets its contract. The loop's invariant: the sum is the number of the word from `k` on.
use mathlib.Core.Path.{◌≡◌}
use native.Mathlib.Omega.{arith}
use Rattle.kept.proofs.Laws.{nothing_counts, key_longer, longer_fits}
use Rattle.kept.proofs.key_of.Goals as goal

pub loop-k-init : goal.loop-k-init
loop-k-init c = (omega arith, nothing_counts c.args.word.now)

pub overflow_mul-sum : goal.overflow_mul-sum
overflow_mul-sum c = omega (arith, longer_fits c.args.word.now c.loop-k.k (omega arith) (omega arith) (omega arith))

pub overflow_add-sum : goal.overflow_add-sum
overflow_add-sum c = omega (arith, longer_fits c.args.word.now c.loop-k.k (omega arith) (omega arith) (omega arith))

pub loop-k-preserved : goal.loop-k-preserved
loop-k-preserved c = (omega arith, omega (arith, key_longer c.args.word.now c.loop-k.k (omega arith) (omega arith)))

pub returns : goal.returns
returns c =
    let z : c.loop-k.k ≡ 0 = omega arith in
    rw z at c.loop-k.invariant.1

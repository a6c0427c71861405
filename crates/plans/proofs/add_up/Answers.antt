-- The pairs before k are added up.
use mathlib.Core.Path.{refl, sym, ◌∙◌}
use native.Mathlib.Omega.{arith}
use Rattle.plans.proofs.Measured.{no_pairs, one_pair_more, all_pairs}
use Rattle.plans.proofs.add_up.Goals as goal

pub loop-k-init : goal.loop-k-init
loop-k-init c = no_pairs _ _ c.requires.n_le_most_tasks c.requires.n_value

pub overflow_add-words : goal.overflow_add-words
overflow_add-words c = omega (arith, c.loop-k.invariant.small)

pub overflow_add-end-in-loop-k : goal.overflow_add-end-in-loop-k
overflow_add-end-in-loop-k c = omega (arith, c.loop-k.invariant.near)

pub loop-k-preserved : goal.loop-k-preserved
loop-k-preserved c =
    one_pair_more _ _ _ _ _ _ _ _ _ c.loop-k.invariant c.length_of-length.ensures c.program_of-program.ensures refl refl (omega arith) (omega arith)

pub returns-then-right : goal.returns-then-right
returns-then-right c =
    let all = all_pairs _ _ _ _ _ _ c.loop-k.invariant c.loop-k-test.false c.loop-k.auto.k-end in rw c.if-right.true at all

pub returns : goal.returns
returns c =
    let all = all_pairs _ _ _ _ _ _ c.loop-k.invariant c.loop-k-test.false c.loop-k.auto.k-end in sym all.pairs ∙ c.if-right.false

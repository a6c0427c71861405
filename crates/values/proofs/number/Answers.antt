-- Each digit that is passed goes into the number.
use native.Mathlib.Omega.{arith}
use Rattle.grammar.specs.Sums.{decimal}
use Rattle.values.proofs.Laws.{digit_lies, one_more, all_read}
use Rattle.values.proofs.number.Goals as goal

pub loop-digit-init : goal.loop-digit-init
unfolding decimal
loop-digit-init c = omega arith

pub more-n-requires : goal.more-n-requires
more-n-requires c = (omega arith, digit_lies _ (c.requires _ c.loop-digit-test.true))

pub loop-digit-preserved : goal.loop-digit-preserved
loop-digit-preserved c = one_more _ _ _ c.loop-digit.invariant _ c.loop-digit-test.true c.more-n.ensures

pub returns : goal.returns
returns c = all_read _ _ _ c.loop-digit.invariant _ c.loop-digit-test.false c.in_range.ensures

-- Both sums go into a float without loss, so the division rounds once.
use native.Mathlib.Omega.{arith}
use Rattle.shares.proofs.Dividing.{float_holds, share_none, share_divided}
use Rattle.shares.proofs.share_on.Goals as goal

pub returns-then-all-eq0 : goal.returns-then-all-eq0
returns-then-all-eq0 c = record { answered = share_none _ _ _ c.all_ticks-all.ensures.value c.if-all-eq0.true }

pub int_to_float-part : goal.int_to_float-part
int_to_float-part c = float_holds _ (omega arith)

pub int_to_float-whole : goal.int_to_float-whole
int_to_float-whole c = float_holds _ (omega arith)

pub returns : goal.returns
returns c = record { answered = share_divided _ _ _ _ c.task_ticks-ticks.ensures.value c.task_ticks-ticks.ensures.upper_bound c.all_ticks-all.ensures.value c.all_ticks-all.ensures.upper_bound c.if-all-eq0.false }

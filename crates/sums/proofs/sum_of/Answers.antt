-- A sum comes to its value only where it is read and no token is left.
use Rattle.sums.proofs.Ways.{total_fails, total_told}
use Rattle.sums.proofs.sum_of.Goals as goal

pub returns-in_err-v : goal.returns-in_err-v
returns-in_err-v c = rw c.from_residual.ensures (total_fails _ _ _ _ (c.sum.ensures.by_index, c.sum.ensures.told_inside) c.in_err-v.was)

pub returns : goal.returns
returns c = total_told _ _ _ _ (c.sum.ensures.by_index, c.sum.ensures.told_inside) _ _ _ c.in_ok-v.was c.ends.ensures _ c.then_some.ensures

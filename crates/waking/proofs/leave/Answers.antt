-- The first task is taken from the ready queue and another dispatched, in the definition's order.
use Rattle.waking.proofs.Needs.{gone}
use Rattle.waking.proofs.leave.Goals as goal

pub returns : goal.returns
returns c = search gone

-- The task joins the ready queue, and it is dispatched just where the queue was empty before.
use Rattle.waking.proofs.Needs.{woken_alone, woken_among}
use Rattle.waking.proofs.wake.Goals as goal

pub returns-then-alone : goal.returns-then-alone
returns-then-alone c = search woken_alone

pub returns-else-alone : goal.returns-else-alone
returns-else-alone c = search woken_among

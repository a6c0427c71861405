-- The number of the kind decides, and then the tasks.
use Rattle.std.proofs.Common.{rules}
use Rattle.views.specs.Looks.{named_queue}
use Rattle.views.proofs.queue_named.Goals as goal

pub returns-in-0 : goal.returns-in-0
unfolding named_queue
returns-in-0 c = search rules

pub returns-in-1 : goal.returns-in-1
unfolding named_queue
returns-in-1 c = search rules

pub returns-in-2 : goal.returns-in-2
unfolding named_queue
returns-in-2 c = search rules

pub returns-in-3 : goal.returns-in-3
unfolding named_queue
returns-in-3 c = search rules

pub returns-in_default : goal.returns-in_default
unfolding named_queue
returns-in_default c = search rules

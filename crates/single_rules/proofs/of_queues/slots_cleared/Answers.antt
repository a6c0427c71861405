-- Where the queue obeys its rules, its free slots are tested.
use Rattle.std.proofs.Common.{rules}
use Rattle.single_rules.specs.Each.{free_zeros}
use Rattle.single_rules.proofs.of_queues.slots_cleared.Goals as goal

pub returns-then-not-queued : goal.returns-then-not-queued
unfolding free_zeros
returns-then-not-queued c = search rules

pub returns-else-not-queued : goal.returns-else-not-queued
unfolding free_zeros
returns-else-not-queued c = search rules

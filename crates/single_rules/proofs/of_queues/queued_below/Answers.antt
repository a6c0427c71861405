-- Where the queue obeys its rules, the words that it holds are tested.
use Rattle.std.proofs.Common.{rules}
use Rattle.single_rules.specs.Each.{below}
use Rattle.single_rules.proofs.of_queues.queued_below.Goals as goal

pub returns-then-not-queued : goal.returns-then-not-queued
unfolding below
returns-then-not-queued c = search rules

pub returns-else-not-queued : goal.returns-else-not-queued
unfolding below
returns-else-not-queued c = search rules

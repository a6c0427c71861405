-- Where the ready queue obeys its rules and holds tasks alone, it is counted how often it holds each.
use Rattle.std.proofs.Common.{rules}
use Rattle.paper.specs.Tests.{readied_tasks}
use Rattle.queue_rules.specs.ReadyCounts.{none_found}
use Rattle.single_rules.specs.Each.{once_if_ready}
use Rattle.single_rules.proofs.of_tasks.readied.Goals as goal

pub returns-then-not-queued : goal.returns-then-not-queued
unfolding once_if_ready
returns-then-not-queued c = search rules

pub count_ready-requires-clause-none_found : goal.count_ready-requires-clause-none_found
count_ready-requires-clause-none_found c = none_found

pub returns-then-not-count_ready : goal.returns-then-not-count_ready
unfolding once_if_ready readied_tasks
returns-then-not-count_ready c = search rules

pub returns : goal.returns
unfolding once_if_ready readied_tasks
returns c = search rules

-- The status tells which rule the task is under, and that rule is tested as in the definition.
use Rattle.std.proofs.Common.{rules}
use Rattle.paper.specs.Tests.{status_holds}
use Rattle.task_rules.proofs.status_holds.Goals as goal

pub returns-in-0 : goal.returns-in-0
unfolding status_holds
returns-in-0 c = search rules

pub returns-in-1 : goal.returns-in-1
unfolding status_holds
returns-in-1 c = search rules

pub returns-in-2 : goal.returns-in-2
unfolding status_holds
returns-in-2 c = search rules

pub returns-in-3 : goal.returns-in-3
unfolding status_holds
returns-in-3 c = search rules

pub returns-in-4 : goal.returns-in-4
unfolding status_holds
returns-in-4 c = search rules

pub returns-in-5 : goal.returns-in-5
unfolding status_holds
returns-in-5 c = search rules

pub returns-in_default : goal.returns-in_default
unfolding status_holds
returns-in_default c = search rules

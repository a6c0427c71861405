-- A task is there below N.
use Rattle.std.proofs.Common.{rules}
use Rattle.views.specs.Looks.{task_seen}
use Rattle.views.proofs.see_task.Goals as goal

pub returns-then-from-s : goal.returns-then-from-s
unfolding task_seen
returns-then-from-s c = search rules

pub returns : goal.returns
unfolding task_seen
returns c = search rules

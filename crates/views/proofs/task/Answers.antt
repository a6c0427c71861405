-- Where the check passes the image, what is seen of it is told; else its refusal.
use Rattle.std.proofs.Common.{rules}
use Rattle.views.specs.Looks.{task_view}
use Rattle.views.proofs.Looked.{looked_sound, task_looked}
use Rattle.views.proofs.task.Goals as goal

pub returns-in_err-s : goal.returns-in_err-s
unfolding task_view
returns-in_err-s c = search rules

pub see_task-requires : goal.see_task-requires
see_task-requires c = looked_sound _ _ c.in_ok-s.ensures

pub returns : goal.returns
returns c = task_looked _ _ c.in_ok-s.ensures _ _ c.see_task.ensures

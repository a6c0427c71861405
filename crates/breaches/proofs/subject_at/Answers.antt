-- Which task or queue it is follows from what the rule is of.
use native.Mathlib.Omega.{arith}
use Rattle.breaches.proofs.Told.{task_few, queue_in, task_told, queue_told}
use Rattle.breaches.proofs.subject_at.Goals as goal

pub overflow_cast-result : goal.overflow_cast-result
overflow_cast-result c = omega (arith, task_few _ c.args.kind _ c.requires.fit c.requires.k_bound c.in-Task.is)

pub queue_at-requires : goal.queue_at-requires
queue_at-requires c =
    let p = queue_in _ c.args.kind _ c.requires.fit c.requires.k_bound c.in-Queue.is in
    record { fit = p.0; k_bound = p.1 }

pub returns-in-Task : goal.returns-in-Task
returns-in-Task c = task_told _ _ _ c.in-Task.is

pub returns-in-Queue : goal.returns-in-Queue
returns-in-Queue c = queue_told _ _ _ _ c.queue_at.ensures.0 c.in-Queue.is

-- An accepted event is told by 0, its kind and its task, a refused one by its number and no answer.
use Rattle.kernel_c.proofs.Promised.{accepted_number, accepted_kind, accepted_task, refused_number, refused_kind, refused_task}
use Rattle.kernel_c.proofs.tell.Goals as goal

pub returns-in-Ok : goal.returns-in-Ok
returns-in-Ok c = record { number_value = search accepted_number; kind_value = search accepted_kind; task_value = search accepted_task }

pub returns-in-Err : goal.returns-in-Err
returns-in-Err c = record { number_value = search refused_number; kind_value = search refused_kind; task_value = search refused_task }

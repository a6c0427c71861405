-- What is seen is told in numbers.
use Rattle.kernel_c.proofs.PromisedOfViews.{looks_at_task}
use Rattle.kernel_c.proofs.looks.kernel_task.Goals as goal

pub returns : goal.returns
returns c = search looks_at_task

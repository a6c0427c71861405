-- What is seen is told in numbers.
use Rattle.kernel_c.proofs.PromisedOfViews.{looks_at_length}
use Rattle.kernel_c.proofs.looks.kernel_queue_length.Goals as goal

pub returns : goal.returns
returns c = search looks_at_length

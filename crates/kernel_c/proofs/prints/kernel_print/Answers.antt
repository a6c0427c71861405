-- What printing answers is told in numbers, and the buffer is as it leaves it.
use Rattle.kernel_c.proofs.PromisedOfTexts.{prints_is}
use Rattle.kernel_c.proofs.prints.kernel_print.Goals as goal

pub returns : goal.returns
returns c = search prints_is

-- What is seen is told in numbers.
use Rattle.kernel_c.proofs.PromisedOfViews.{looks_at_register}
use Rattle.kernel_c.proofs.looks.kernel_register.Goals as goal

pub returns : goal.returns
returns c = search looks_at_register

-- What measuring answers is told in numbers.
use Rattle.kernel_c.proofs.PromisedOfTexts.{measures_text_is}
use Rattle.kernel_c.proofs.prints.kernel_print_size.Goals as goal

pub returns : goal.returns
returns c = search measures_text_is

-- What the translation answers is told in numbers, and the target is as it leaves it.
use Rattle.kernel_c.proofs.PromisedOfTexts.{translates_is}
use Rattle.kernel_c.proofs.scripts.kernel_translate.Goals as goal

pub returns : goal.returns
returns c = search translates_is

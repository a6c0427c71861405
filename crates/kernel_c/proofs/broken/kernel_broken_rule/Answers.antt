-- What is told is put into numbers.
use Rattle.kernel_c.proofs.PromisedOfBreaches.{tells_broken}
use Rattle.kernel_c.proofs.broken.kernel_broken_rule.Goals as goal

pub returns : goal.returns
returns c = search tells_broken

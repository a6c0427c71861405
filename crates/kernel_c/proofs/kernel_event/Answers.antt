-- What the event answers is told in numbers, and the image is as it leaves it.
use Rattle.kernel_c.proofs.Promised.{happens_is}
use Rattle.kernel_c.proofs.kernel_event.Goals as goal

pub returns : goal.returns
returns c = search happens_is

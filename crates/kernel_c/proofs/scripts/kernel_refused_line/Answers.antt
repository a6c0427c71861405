-- The line at fault is told in numbers, and where nothing is refused, 0 and 0 are.
use Rattle.kernel_c.proofs.PromisedOfTexts.{names_line_is}
use Rattle.kernel_c.proofs.scripts.kernel_refused_line.Goals as goal

pub returns : goal.returns
returns c = search names_line_is

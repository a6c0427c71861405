-- The port's first word decides, as in the definition.
use Rattle.services.proofs.Needs.{printed, not_printed}
use Rattle.services.proofs.print_if_idle.Goals as goal

pub returns-then-get-eq-IDLE : goal.returns-then-get-eq-IDLE
returns-then-get-eq-IDLE c = search printed

pub returns-else-get-eq-IDLE : goal.returns-else-get-eq-IDLE
returns-else-get-eq-IDLE c = search not_printed

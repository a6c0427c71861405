-- The flags written are those of the definition of a fault.
use Rattle.services.proofs.Needs.{faulted}
use Rattle.services.proofs.fault.Goals as goal

pub returns : goal.returns
returns c = search faulted

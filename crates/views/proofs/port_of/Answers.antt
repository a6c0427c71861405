-- The two words of a port are read.
use Rattle.views.proofs.Seen.{port_is}
use Rattle.views.proofs.port_of.Goals as goal

pub returns : goal.returns
returns c = search port_is

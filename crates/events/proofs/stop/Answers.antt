-- A status written leaves the ready queue as it was, so the first task is there to leave.
use Rattle.events.proofs.Branches.{still_some, stops}
use Rattle.events.proofs.stop.Goals as goal

pub leave-requires : goal.leave-requires
leave-requires c = search still_some

pub returns : goal.returns
returns c = search stops

-- A status written leaves the ready queue as it was, so the first task is there to leave.
use Rattle.services.proofs.Needs.{still_some, gone}
use Rattle.services.proofs.wait.Goals as goal

pub leave-requires : goal.leave-requires
leave-requires c = search still_some

pub returns : goal.returns
returns c = search gone

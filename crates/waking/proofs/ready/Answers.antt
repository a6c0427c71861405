-- A status written leaves the ready queue as it was, so it has room for the task.
use Rattle.waking.proofs.Needs.{room_kept, made_ready}
use Rattle.waking.proofs.ready.Goals as goal

pub append-requires : goal.append-requires
append-requires c = search room_kept

pub returns : goal.returns
returns c = search made_ready

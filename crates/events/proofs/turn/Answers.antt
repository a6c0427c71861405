-- A task taken leaves room for it at the end.
use Rattle.events.proofs.Branches.{room_again, turns}
use Rattle.events.proofs.turn.Goals as goal

pub append-requires : goal.append-requires
append-requires c = search room_again

pub returns : goal.returns
returns c = search turns

-- Where the greatest of the counts has room, all have.
use native.Mathlib.Omega.{arith}
use Rattle.counting.proofs.Counting.{upto_room}
use Rattle.counting.proofs.has_room.Goals as goal

pub returns : goal.returns
returns c = upto_room _ _ _ c.greatest.ensures (omega arith)

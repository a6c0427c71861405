-- The form of the row tells it.
use Rattle.std.proofs.Common.{arith}
use Rattle.spelling.proofs.Read.{second_read}
use Rattle.spelling.proofs.seconds.Goals as goal

pub returns : goal.returns
returns c = record { value = second_read _ _ c.parts_of.ensures c.requires; upper_bound = omega arith }

-- A sum of two counts is odd just where one of them is odd and the other is not.
use Rattle.files.proofs.LongPlans.{odd_after}
use Rattle.files.proofs.is_odd.Goals as goal

pub returns : goal.returns
returns c = odd_after _ _

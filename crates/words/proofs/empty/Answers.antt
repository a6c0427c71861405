-- A queue is empty just where its count is 0.
use Rattle.words.proofs.Needs.{empty_is}
use Rattle.words.proofs.empty.Goals as goal

pub returns : goal.returns
returns c = search empty_is

-- Each number is read from its word of the header; the segments have as many words as T is past their start.
use Rattle.headers.proofs.Tested.{shape_read}
use Rattle.headers.proofs.shape_of.Goals as goal

pub returns : goal.returns
returns c = search shape_read

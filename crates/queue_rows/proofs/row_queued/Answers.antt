-- The row is right just where its four leading words are.
use Rattle.queue_rows.proofs.Passing.{row_tested}
use Rattle.queue_rows.proofs.row_queued.Goals as goal

pub returns : goal.returns
returns c = search row_tested

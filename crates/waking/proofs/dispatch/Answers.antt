-- The ready queue tells whether the clock becomes 0 or the slice.
use Rattle.waking.proofs.Needs.{dispatched_none, dispatched_some}
use Rattle.waking.proofs.dispatch.Goals as goal

pub returns-then-empty : goal.returns-then-empty
returns-then-empty c = search dispatched_none

pub returns : goal.returns
returns c = search dispatched_some

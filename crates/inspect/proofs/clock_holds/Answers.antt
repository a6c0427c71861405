-- The clock is at most the slice, and 0 where the ready queue is empty: both are tested.
use Rattle.std.proofs.Common.{rules}
use Rattle.paper.specs.Tests.{clock_holds}
use Rattle.inspect.proofs.clock_holds.Goals as goal

pub returns : goal.returns
unfolding clock_holds
returns c = search rules

-- None of the counts is above their maximum.
use Rattle.std.proofs.Common.{rules}
use Rattle.counting.specs.Room.{AllUpto}
use Rattle.counting.proofs.greatest.Goals as goal

pub returns : goal.returns
unfolding AllUpto
returns c = search rules

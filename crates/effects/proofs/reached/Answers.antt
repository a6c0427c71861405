-- A place below the segment's end is reached, any other is not.
use Rattle.effects.specs.Holding.{reach_at, reach_past}
use Rattle.effects.proofs.reached.Goals as goal

pub returns-then-x-g : goal.returns-then-x-g
returns-then-x-g c = search reach_at

pub returns : goal.returns
returns c = search reach_past

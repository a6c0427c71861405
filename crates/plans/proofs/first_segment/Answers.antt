-- The segments start at the last of the packed offsets.
use Rattle.plans.specs.Sizes.{first_is}
use Rattle.plans.proofs.first_segment.Goals as goal

pub returns : goal.returns
returns c = search first_is

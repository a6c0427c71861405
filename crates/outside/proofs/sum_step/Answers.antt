-- The tokens from a place on are those that the next one shows.
use Rattle.outside.proofs.Reasons.{steps_from_any}
use Rattle.outside.proofs.sum_step.Goals as goal

pub returns : goal.returns
returns c = search steps_from_any

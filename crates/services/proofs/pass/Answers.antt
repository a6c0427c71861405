-- The word read is the one in R3, and the flags are those with nothing pending.
use Rattle.services.proofs.Needs.{passes}
use borrow.Author.Rules.{rules}
use Rattle.services.proofs.pass.Goals as goal

pub returns : goal.returns
returns c = record { im_after = search passes; sound_2 = search rules }

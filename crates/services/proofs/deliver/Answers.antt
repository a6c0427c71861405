-- The word taken is the buffer's first, and the flags are those with nothing pending.
use Rattle.services.proofs.Needs.{delivers}
use borrow.Author.Rules.{rules}
use Rattle.services.proofs.deliver.Goals as goal

pub returns : goal.returns
returns c = record { im_after = search delivers; sound_2 = search rules }

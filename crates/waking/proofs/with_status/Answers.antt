-- The status and the peer are written as in the definition, and the image stays sound with each.
use Rattle.waking.proofs.Needs.{statused}
use Rattle.waking.proofs.with_status.Goals as goal

pub returns : goal.returns
returns c = search statused

-- R0 becomes the address that leads where R0 in hand does.
use Rattle.effects.proofs.Answering.{stood}
use Rattle.effects.proofs.stand.Goals as goal

pub returns : goal.returns
returns c = search stood

-- What a callee tells is told on.
use Rattle.outside.proofs.names_reason.Goals as goal

pub returns-in_default : goal.returns-in_default
returns-in_default c = c.unfit.ensures _

pub returns-in_default-mark_of : goal.returns-in_default-mark_of
returns-in_default-mark_of c = c.unfit-in_default-mark_of.ensures _

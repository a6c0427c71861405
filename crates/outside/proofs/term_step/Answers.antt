-- What a callee tells is told on.
use Rattle.outside.proofs.term_step.Goals as goal

pub returns-in_default : goal.returns-in_default
returns-in_default c = c.unfit.ensures _

-- The error in the flags tells whether the order faulted.
use Rattle.ticks.proofs.Needs.{flags_done, flags_faulted}
use Rattle.ticks.proofs.by_flags.Goals as goal

pub returns-then-error_of-eq-NO_ERROR : goal.returns-then-error_of-eq-NO_ERROR
returns-then-error_of-eq-NO_ERROR c = search flags_done

pub returns : goal.returns
returns c = search flags_faulted

-- Each token passed leaves fewer.
use Rattle.outside.specs.Reasons.{left}
use Rattle.reasons.proofs.missing_from.Given as goal

abbrev pub decreases-loop-from : goal.decreases-loop-from
decreases-loop-from l = left l.line l.k

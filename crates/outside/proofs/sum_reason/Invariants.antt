-- Each token of a sum leaves fewer.
use Rattle.outside.specs.Reasons.{left}
use Rattle.outside.proofs.sum_reason.Given as goal

abbrev pub decreases-loop-next : goal.decreases-loop-next
decreases-loop-next l = left l.line l.now.at

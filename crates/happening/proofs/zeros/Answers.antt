-- After k words the answer tells whether all of these are 0.
use native.Mathlib.Omega.{arith}
use Rattle.happening.proofs.AllZero.{zeros_none, zeros_more, zeros_done}
use Rattle.happening.proofs.zeros.Goals as goal

pub loop-k-init : goal.loop-k-init
loop-k-init c = (search zeros_none, omega arith)

pub loop-k-preserved : goal.loop-k-preserved
loop-k-preserved c = (search zeros_more, omega arith)

pub returns : goal.returns
returns c = search zeros_done

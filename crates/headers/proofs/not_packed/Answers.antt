-- The shape is packed just where its nine offsets are those that its other numbers give.
use mathlib.Core.Path.{◌∙◌}
use native.Mathlib.Omega.{arith}
use Rattle.headers.proofs.Tested.{packed_tested}
use Rattle.headers.proofs.not_packed.Goals as goal

pub returns : goal.returns
returns c = c.ne.ensures ∙ packed_tested _ _ (omega (arith, c.well_formed)) c.offsets.ensures

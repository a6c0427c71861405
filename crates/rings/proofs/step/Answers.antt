-- A remainder is the wrapped step.
use mathlib.Core.Path.{sym}
use Rattle.laws.specs.Steps.{step_mod}
use Rattle.rings.proofs.step.Goals as goal

pub returns : goal.returns
returns c = sym (step_mod _ _ c.requires)

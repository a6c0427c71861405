-- The byte is written at its place, and the next goes one further.
use mathlib.Core.Path.{refl}
use Rattle.writes.specs.Written.{written_one}
use Rattle.runner_lines.proofs.put_byte.Goals as goal

pub returns : goal.returns
returns c = record { value = refl; out_after = written_one _ _ _ }

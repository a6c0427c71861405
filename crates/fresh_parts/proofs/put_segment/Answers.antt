-- The program is written, and the zeros after it are there already or are written, too.
use mathlib.Core.Path.{refl}
use native.Mathlib.Omega.{arith}
use Rattle.writes.specs.Written.{then_on}
use Rattle.fresh_parts.proofs.Making.{program_in_zeros}
use Rattle.fresh_parts.proofs.put_segment.Goals as goal

pub returns-then-zeroed : goal.returns-then-zeroed
returns-then-zeroed c = record { result_value = refl; out_after = search program_in_zeros }

pub returns : goal.returns
returns c = record { result_value = omega arith; out_after = search then_on }

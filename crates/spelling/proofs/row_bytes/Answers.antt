-- The form of the row tells both parts.
use Rattle.std.proofs.Common.{arith}
use Rattle.spelling.proofs.Read.{bytes_read}
use Rattle.spelling.proofs.row_bytes.Goals as goal

pub returns : goal.returns
returns c = record { value = bytes_read _ _ c.parts_of-form.ensures c.requires; upper_bound = omega arith }

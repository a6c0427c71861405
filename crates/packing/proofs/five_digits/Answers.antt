-- The sum is the same, multiplied out.
use Rattle.std.proofs.Common.{arith}
use Rattle.packing.specs.Packed.{five}
use Rattle.packing.proofs.five_digits.Goals as goal

pub overflow_add-result : goal.overflow_add-result
overflow_add-result c = omega (arith, c.from_le_bytes.ensures, c.from_le_bytes-2.ensures)

pub returns : goal.returns
unfolding five
returns c = omega (arith, c.from_le_bytes.ensures, c.from_le_bytes-2.ensures)

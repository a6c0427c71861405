-- The answer's own count is not at its end, so there is room for one.
use native.Mathlib.Omega.{arith}
use Rattle.counting.proofs.Counting.{open_place}
use Rattle.counting.proofs.count.Goals as goal

pub add_one-requires : goal.add_one-requires
add_one-requires c = open_place _ _ _ c.requires c.in-Some.ensures (grind arith)

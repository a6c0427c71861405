-- The loop's invariant: the number is that of the digits passed, cut off at the end of the range.
use mathlib.Core.Path.{◌≡◌}
use Prim.Native.Nat.{min}
use lib.ListN.{take}
use Rattle.grammar.specs.Sums.{decimal, end_of_range}
use Rattle.values.proofs.number.Given as goal

abbrev pub invariant-loop-digit : goal.invariant-loop-digit
invariant-loop-digit l = l.n ≡ min (decimal 0 (take l.digit-index l.digits)) end_of_range

-- The bytes that are left, mixed from here, come to what the whole word comes to.
use mathlib.Core.Path.{◌≡◌}
use Prim.Native.Nat.{◌<◌}
use lib.ListN.{drop}
use Rattle.tables.specs.Tables.{mixed as mixed_of}
use Rattle.tables.proofs.bucket_of.Given as goal

abbrev pub invariant-loop-b : goal.invariant-loop-b
invariant-loop-b l = (l.mixed < 4294967296) × (mixed_of 0 l.word ≡ mixed_of l.mixed (drop l.b-index l.word))

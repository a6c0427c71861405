-- After k words the text up to `bytes` is counted.
use Prim.Native.Nat.{◌*◌, ◌≤◌}
use Rattle.printing.specs.Pieces.{most_piece}
use Rattle.printing.proofs.Reached.{Reached}
use Rattle.printing.proofs.text_bytes.Given as goal

abbrev pub invariant-loop-k : goal.invariant-loop-k
invariant-loop-k l = Reached l.words l.k l.starts l.bytes × (l.bytes ≤ most_piece * l.k)

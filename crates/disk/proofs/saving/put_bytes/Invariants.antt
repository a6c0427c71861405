-- The bytes of the words passed are put.
use Rattle.disk.proofs.Bytes.{Put}
use Rattle.disk.proofs.saving.put_bytes.Given as goal

abbrev pub invariant-loop-k : goal.invariant-loop-k
invariant-loop-k l = Put l.words l.bytes l.k

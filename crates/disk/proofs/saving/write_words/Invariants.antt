-- The buffer keeps its length.
use mathlib.Core.Path.{◌≡◌}
use lib.ListN.{length}
use Rattle.std.specs.Slice.Iter.{chunks_size}
use Rattle.disk.specs.Bytes.{chunk, chunk_bytes}
use Rattle.disk.proofs.saving.write_words.Given as goal

abbrev pub invariant-loop-chunk : goal.invariant-loop-chunk
invariant-loop-chunk g l =
    (goal.iterator-loop-chunk g).can_next l.chunk-iterator
    × (goal.iterator-loop-chunk g).is_finite l.chunk-iterator
    × (chunks_size l.chunk-iterator ≡ chunk)
    × (length l.bytes ≡ chunk_bytes)

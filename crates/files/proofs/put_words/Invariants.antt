-- What is written, and the words of the bytes that are left, make the whole.
use mathlib.Core.Path.{◌≡◌}
use Rattle.std.specs.Slice.Iter.{chunks_exact_rest, chunks_exact_size}
use Rattle.files.proofs.Words.{Words}
use Rattle.files.proofs.put_words.Given as goal

abbrev pub invariant-loop-pair : goal.invariant-loop-pair
invariant-loop-pair l =
    goal.iterator-loop-pair.can_next l.pair-iterator
    × goal.iterator-loop-pair.is_finite l.pair-iterator
    × (chunks_exact_size l.pair-iterator ≡ 2)
    × Words l.initial.words l.bytes l.words l.count (chunks_exact_rest l.pair-iterator)

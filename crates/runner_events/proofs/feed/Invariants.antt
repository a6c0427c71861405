-- The lines that are written, and what is left to print, make the whole; the image is as long as before.
use mathlib.Core.Path.{◌≡◌}
use lib.ListN.{length}
use Rattle.std.specs.Slice.Iter.{chunks_exact_rest, chunks_exact_size}
use Rattle.runner_events.specs.Buffers.{event_bytes}
use Rattle.runner_events.proofs.Taking.{Going}
use Rattle.runner_events.proofs.feed.Given as goal

abbrev pub invariant-loop-event : goal.invariant-loop-event
invariant-loop-event l =
    goal.iterator-loop-event.can_next l.event-iterator
    × goal.iterator-loop-event.is_finite l.event-iterator
    × (chunks_exact_size l.event-iterator ≡ event_bytes)
    × (length l.im ≡ length l.initial.im)
    × Going l.s l.initial.im l.n l.bytes l.initial.out l.im l.out (chunks_exact_rest l.event-iterator) l.text l.taken

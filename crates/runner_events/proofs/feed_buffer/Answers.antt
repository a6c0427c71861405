-- Only the bytes found are lent, and a full buffer holds whole events, so any rest goes on where they end.
use mathlib.Core.Path.{sym}
use Rattle.runner_events.proofs.Taking.{found_length, found_numbers, found_room, found_rest}
use Rattle.runner_events.proofs.feed_buffer.Goals as goal

pub slice_bounds-feed-end : goal.slice_bounds-feed-end
slice_bounds-feed-end c = sym (found_length _ _ _ _ c.requires.buffered)

pub feed-requires : goal.feed-requires
feed-requires c = record { lawful = c.requires.lawful; order_table = c.requires.order_table; bytes_bound = found_numbers _ _ _ _ c.requires.buffered; bytes_in_bounds = found_room _ _ _ _ c.requires.buffered }

pub returns : goal.returns
returns c = record { feeds = c.feed.ensures; for_any_rest = found_rest _ _ _ _ c.requires.buffered _ _ _ _ _ _ _ c.feed.ensures }

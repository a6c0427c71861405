-- The queue is a ring at its place that has room, and what is appended to the ring is appended to the queue.
use Rattle.laws.specs.Sound.{sound_fit}
use Rattle.words.proofs.Needs.{ring_is, room_is, appended_is, appended_keeps}
use Rattle.words.proofs.append.Goals as goal

pub queue_place-requires : goal.queue_place-requires
queue_place-requires c = search sound_fit

pub append_at-requires : goal.append_at-requires
append_at-requires c = search (ring_is, room_is)

pub returns : goal.returns
returns c = search (appended_is, appended_keeps)

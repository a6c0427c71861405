-- The queue is a ring at its place that holds a word, and what is taken from the ring is taken from the queue.
use Rattle.laws.specs.Sound.{sound_fit}
use Rattle.words.proofs.Needs.{ring_is, some_is, taken_is, taken_keeps, first_is}
use Rattle.words.proofs.take.Goals as goal

pub queue_place-requires : goal.queue_place-requires
queue_place-requires c = search sound_fit

pub take_at-requires : goal.take_at-requires
take_at-requires c = search (ring_is, some_is)

pub returns : goal.returns
returns c = search (first_is, taken_is, taken_keeps)

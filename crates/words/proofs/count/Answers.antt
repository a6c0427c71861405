-- The queue is a ring at its place, and the ring's count is the queue's.
use Rattle.laws.specs.Sound.{sound_fit}
use Rattle.words.proofs.Needs.{ring_is, count_is}
use Rattle.words.proofs.count.Goals as goal

pub queue_place-requires : goal.queue_place-requires
queue_place-requires c = search sound_fit

pub count_at-requires : goal.count_at-requires
count_at-requires c = search ring_is

pub returns : goal.returns
returns c = search count_is

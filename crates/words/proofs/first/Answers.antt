-- The queue is a ring at its place, and the ring's first word is the queue's.
use Rattle.laws.specs.Sound.{sound_fit}
use Rattle.words.proofs.Needs.{ring_is, first_is}
use Rattle.words.proofs.first.Goals as goal

pub queue_place-requires : goal.queue_place-requires
queue_place-requires c = search sound_fit

pub first_at-requires : goal.first_at-requires
first_at-requires c = search ring_is

pub returns : goal.returns
returns c = search first_is

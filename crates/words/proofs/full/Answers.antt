-- The queue is a ring at its place, and the ring is full just where the queue is.
use Rattle.laws.specs.Sound.{sound_fit}
use Rattle.words.proofs.Needs.{ring_is, full_is}
use Rattle.words.proofs.full.Goals as goal

pub queue_place-requires : goal.queue_place-requires
queue_place-requires c = search sound_fit

pub full_at-requires : goal.full_at-requires
full_at-requires c = search ring_is

pub returns : goal.returns
returns c = search full_is

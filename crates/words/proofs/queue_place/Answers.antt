-- A queue's first word is a valid cell, so it has a place.
use Rattle.words.proofs.Needs.{head_valid}
use Rattle.words.proofs.queue_place.Goals as goal

pub place_of-requires : goal.place_of-requires
place_of-requires c = search head_valid

pub returns : goal.returns
returns c = rw (← c.head_of.ensures) c.place_of.ensures

-- A spot lies in the image, and is none of the words that the layout and the queues fix.
use Rattle.laws.specs.Sound.{sound_fit}
use Rattle.words.proofs.Needs.{found_valid, place_inside, spot_put, spot_put_sound}
use Rattle.words.proofs.put.Goals as goal

pub place_of-requires : goal.place_of-requires
place_of-requires c = search (sound_fit, found_valid)

pub store-requires : goal.store-requires
store-requires c = search (place_inside, found_valid)

pub returns : goal.returns
returns c = search (spot_put, spot_put_sound)

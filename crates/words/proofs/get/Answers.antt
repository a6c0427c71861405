-- A spot lies in the image, and the word of its cell is read.
use Rattle.laws.specs.Sound.{sound_sized}
use Rattle.words.proofs.Needs.{found_valid, got}
use Rattle.words.proofs.get.Goals as goal

pub word_of-requires : goal.word_of-requires
word_of-requires c = search (sound_sized, found_valid)

pub returns : goal.returns
returns c = search got

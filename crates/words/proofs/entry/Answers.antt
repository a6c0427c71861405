-- The entry of a task below N lies in the image, and its word is read.
use Rattle.laws.specs.Sound.{sound_sized}
use Rattle.words.proofs.entry.Goals as goal

pub word_of-requires : goal.word_of-requires
word_of-requires c = search sound_sized

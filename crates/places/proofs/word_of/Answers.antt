-- A valid cell lies in the image, and the word at its place is the cell's.
use Rattle.laws.specs.Sound.{sized_fit}
use Rattle.places.proofs.Cells.{cell_inside, cell_word}
use Rattle.places.proofs.word_of.Goals as goal

pub place_of-requires : goal.place_of-requires
place_of-requires c = search sized_fit

pub load-requires : goal.load-requires
load-requires c = search cell_inside

pub returns : goal.returns
returns c = search cell_word

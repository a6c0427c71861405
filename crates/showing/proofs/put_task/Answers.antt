-- A sound image has the words of each task.
use Rattle.laws.specs.Sound.{sound_fit}
use Rattle.showing.proofs.put_task.Goals as goal

pub row_of-row-requires-clause-fit : goal.row_of-row-requires-clause-fit
row_of-row-requires-clause-fit g c = search sound_fit

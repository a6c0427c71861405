-- A sound image has the words of each task.
use Rattle.laws.specs.Sound.{sound_fit}
use Rattle.views.proofs.Seen.{state_is}
use borrow.Author.Rules.{rules}
use Rattle.views.proofs.state_of.Goals as goal

pub row_of-requires : goal.row_of-requires
row_of-requires c = record { fit = search sound_fit; t_lt_n = search rules }

pub returns : goal.returns
returns c = search state_is

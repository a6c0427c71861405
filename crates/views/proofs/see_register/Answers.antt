-- A register is there below 8, of a task below N.
use Rattle.std.proofs.Common.{rules}
use Rattle.laws.specs.Sound.{sound_fit}
use Rattle.views.specs.Looks.{register_seen}
use Rattle.views.proofs.see_register.Goals as goal

pub row_of-requires-clause-fit : goal.row_of-requires-clause-fit
row_of-requires-clause-fit c = search sound_fit

pub returns-then-from-s : goal.returns-then-from-s
unfolding register_seen
returns-then-from-s c = search rules

pub returns : goal.returns
unfolding register_seen
returns c = search rules

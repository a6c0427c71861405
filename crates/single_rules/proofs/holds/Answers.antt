-- There is a queue k, and k is a word.
use Rattle.laws.specs.Sound.{sized_fit}
use Rattle.single_rules.proofs.Tested.{few}
use Rattle.single_rules.proofs.holds.Goals as goal

pub overflow_cast-i : goal.overflow_cast-i
overflow_cast-i c = search few

pub queue_at-q-requires-clause-fit : goal.queue_at-q-requires-clause-fit
queue_at-q-requires-clause-fit c = search sized_fit

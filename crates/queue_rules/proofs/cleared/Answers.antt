-- The free slots are those from the tail on, as many as the length leaves of the capacity.
use Rattle.laws.specs.Cells.{in_lead}
use Rattle.queue_rules.proofs.Held.{tail_inside, count_inside, cleared_tested}
use Rattle.queue_rules.proofs.cleared.Goals as goal

pub queue_word-requires : goal.queue_word-requires
queue_word-requires c = search in_lead

pub queue_word-requires-2 : goal.queue_word-requires-2
queue_word-requires-2 c = search in_lead

pub overflow_sub-capacity_of : goal.overflow_sub-capacity_of
overflow_sub-capacity_of c = search count_inside

pub words_below-requires : goal.words_below-requires
words_below-requires c = search tail_inside

pub returns : goal.returns
returns c = search cleared_tested

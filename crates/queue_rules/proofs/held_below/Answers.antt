-- The words held are those from the head on, as many as the length says.
use Rattle.laws.specs.Cells.{in_lead}
use Rattle.queue_rules.proofs.Held.{head_inside, held_tested}
use Rattle.queue_rules.proofs.held_below.Goals as goal

pub queue_word-requires : goal.queue_word-requires
queue_word-requires c = search in_lead

pub queue_word-requires-2 : goal.queue_word-requires-2
queue_word-requires-2 c = search in_lead

pub words_below-requires : goal.words_below-requires
words_below-requires c = search head_inside

pub returns : goal.returns
returns c = search held_tested

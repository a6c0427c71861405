-- The plan's shape has the words of all segments.
use Rattle.plans.proofs.Measured.{few_tasks}
use Rattle.plans.proofs.shape_of_plan.Goals as goal

pub words_of-requires : goal.words_of-requires
words_of-requires c = search few_tasks

pub shape_with-requires-clause-words_value : goal.shape_with-requires-clause-words_value
shape_with-requires-clause-words_value c = let w = c.words_of.ensures in (rw (← c.header_word.ensures) w.value, w.small)

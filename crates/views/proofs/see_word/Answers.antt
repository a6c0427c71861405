-- The queue that is named holds its words, if there is one.
use Rattle.std.proofs.Common.{rules, sym}
use Rattle.views.proofs.Queues.{named_has}
use Rattle.views.specs.Looks.{word_seen}
use Rattle.views.proofs.see_word.Goals as goal

pub returns-in_err-x : goal.returns-in_err-x
unfolding word_seen
returns-in_err-x c = search rules

pub held_at-requires-clause-has : goal.held_at-requires-clause-has
held_at-requires-clause-has c = named_has _ _ _ _ _ (sym c.in_ok-x.ensures)

pub returns : goal.returns
unfolding word_seen
returns c = search rules

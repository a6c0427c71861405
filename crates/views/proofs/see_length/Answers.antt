-- The queue that is named has its length, if there is one.
use Rattle.std.proofs.Common.{rules, sym}
use Rattle.views.proofs.Queues.{named_has}
use Rattle.views.specs.Looks.{length_seen}
use Rattle.views.proofs.see_length.Goals as goal

pub returns-in_err-x : goal.returns-in_err-x
unfolding length_seen
returns-in_err-x c = search rules

pub count-requires-clause-has : goal.count-requires-clause-has
count-requires-clause-has c = named_has _ _ _ _ _ (sym c.in_ok-x.ensures)

pub returns : goal.returns
unfolding length_seen
returns c = search rules

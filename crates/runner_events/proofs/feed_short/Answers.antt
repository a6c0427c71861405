-- The line of a malformed event is written after the others, and no event more is taken.
use mathlib.Core.Path.{refl}
use Rattle.runner_events.proofs.feed_short.Goals as goal

pub overflow_add-n : goal.overflow_add-n
overflow_add-n c = record { fits = c.requires.taken_bound }

pub returns : goal.returns
returns c = record { counted = c.put_line.ensures.value; small = c.put_line.ensures.upper_bound; made = c.put_line.ensures.out_after; same = refl; stopped = refl }

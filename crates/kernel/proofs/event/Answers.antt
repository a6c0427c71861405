-- A good image takes the event as one step; any other is refused and left as it is.
use Rattle.std.proofs.Common.{rules}
use Rattle.kernel.proofs.Promised.{event_fine, event_refused, fine_lawful}
use Rattle.kernel.proofs.event.Goals as goal

pub returns-in_err-s : goal.returns-in_err-s
returns-in_err-s c = search (event_refused, rules)

pub step-requires-clause-lawful : goal.step-requires-clause-lawful
step-requires-clause-lawful c = fine_lawful _ _ c.in_ok-s.ensures

pub returns : goal.returns
returns c = event_fine _ _ _ _ _ c.in_ok-s.ensures _ _ c.step.ensures.im_after

-- An image that passes the check is lawful.
use mathlib.Core.Path.{refl}
use Rattle.laws.specs.Events.{inspected_lawful}
use Rattle.order_cases.proofs.outcomes.Orders.ticked.Goals as goal

pub step-reply-requires-clause-lawful : goal.step-reply-requires-clause-lawful
step-reply-requires-clause-lawful c = let h = c.in-Ok.ensures in inspected_lawful _ _ _ refl h.1 h.0

-- Slots below the capacity stay; of others it is taken off once, since they are below twice the capacity.
use Rattle.queue_rows.proofs.Leads.{wrapped_low, wrapped_high}
use Rattle.queue_rows.proofs.wrapped.Goals as goal

pub returns-then-slots-capacity : goal.returns-then-slots-capacity
returns-then-slots-capacity c = search wrapped_low

pub returns : goal.returns
returns c = search wrapped_high

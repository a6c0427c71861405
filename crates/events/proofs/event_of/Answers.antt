-- The tests are those of the definition, joined in its order.
use Rattle.events.proofs.Branches.{tick_made, input_made, done_made, malformed}
use Rattle.events.proofs.event_of.Goals as goal

pub returns-then-both : goal.returns-then-both
returns-then-both c = search tick_made

pub returns-then-both-2 : goal.returns-then-both-2
returns-then-both-2 c = input_made _ _ _ _ _ _ c.both.ensures c.both-2.ensures c.if-both.false _ _ c.both-3.ensures c.both-4.ensures c.if-both-2.true

pub returns-then-both-3 : goal.returns-then-both-3
returns-then-both-3 c = done_made _ _ _ _ _ _ c.both.ensures c.both-2.ensures c.if-both.false _ _ c.both-3.ensures c.both-4.ensures c.if-both-2.false _ _ c.both-5.ensures c.both-6.ensures c.if-both-3.true

pub returns : goal.returns
returns c = search malformed

-- So many events are counted, and the rest of the list is left.
use mathlib.Core.Path.{refl}
use native.Mathlib.Omega.{arith}
use Rattle.happening.proofs.Taking.{lawful_long, event_there}
use Rattle.careful.proofs.Counted.{counted_none, counted_more, counted_refused, counted_all}
use borrow.Author.Rules.{rules}
use Rattle.careful.proofs.count_all.Goals as goal

pub loop-taken-init : goal.loop-taken-init
loop-taken-init c = (search rules, counted_none _ _ _ _, search rules)

pub shape_of-im-in-Err : goal.shape_of-im-in-Err
shape_of-im-in-Err c = search lawful_long

pub returns-in-Err : goal.returns-in-Err
returns-in-Err c = record { counts_all = search (counted_refused, event_there); lawful_2 = search rules }

pub loop-taken-preserved : goal.loop-taken-preserved
loop-taken-preserved c =
    let whole = event_there c.args.events.now _ _ refl c.loop-taken-test.true in
    (search rules, counted_more _ _ _ _ _ _ _ c.loop-taken.invariant.1 whole _ _ _ c.count_event-reply.ensures.counts_one _ c.in_default.is, omega arith)

pub shape_of-im : goal.shape_of-im
shape_of-im c = search lawful_long

pub returns : goal.returns
returns c = record { counts_all = search counted_all; lawful_2 = search rules }

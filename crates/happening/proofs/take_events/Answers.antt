-- So many events are taken and their ticks counted, and the rest of the list is left.
use native.Mathlib.Omega.{arith}
use Rattle.happening.proofs.AllZero.{stopped}
use Rattle.happening.proofs.Taking.{taken_none, taken_more, taken_refused, lawful_long, event_there, all_end}
use Rattle.happening.proofs.Tallying.{Stood, books_none, books_ledger, books_room, books_reach, books_event, books_refused, books_still, books_all}
use borrow.Author.Rules.{rules}
use Rattle.happening.proofs.take_events.Goals as goal
use Rattle.happening.proofs.take_events.Goals.{Joined-taken-end, then-taken-end, else-taken-end}

-- after the ticks ahead, if there are any
stood : (c : Joined-taken-end)
    → Stood c.args.s c.args.im.now c.args.events.now c.args.counts.now c.ticks_ahead-end.result c.if-taken-end.taken c.if-taken-end.last c.if-taken-end.im c.if-taken-end.counts
stood c = elim c.if-taken-end.branch [ then-taken-end w ↦ search books_reach | else-taken-end w ↦ search books_still ]

pub loop-taken-init : goal.loop-taken-init
loop-taken-init c = search (taken_none, books_none, rules)

pub ticks_ahead-end-requires : goal.ticks_ahead-end-requires
ticks_ahead-end-requires c = (omega arith, omega arith)

pub ticks-requires : goal.ticks-requires
ticks-requires c = record { lawful = search rules; order_table = search rules; n_nonzero = omega arith; ledger = search books_ledger; room = search books_room }

pub report_at-last-requires : goal.report_at-last-requires
report_at-last-requires c = let r = stood (goal.at.report_at-last-requires c).Joined-taken-end in record { lawful = r.kept; k_in_bounds = search event_there; k_value = search (stopped, r) }

pub shape_of-im-in-Err : goal.shape_of-im-in-Err
shape_of-im-in-Err c = search lawful_long

pub shape_of-counts-in-Err : goal.shape_of-counts-in-Err
shape_of-counts-in-Err c = (stood (goal.at.shape_of-counts-in-Err c).Joined-taken-end).books.long

pub returns-in-Err : goal.returns-in-Err
returns-in-Err c =
    let r = stood (goal.at.returns-in-Err c).Joined-taken-end in
    record { tallies = search (books_refused, event_there, r.books); ends = search (taken_refused, event_there, r.taken); lawful_2 = search rules }

pub loop-taken-smaller-then-taken-count : goal.loop-taken-smaller-then-taken-count
loop-taken-smaller-then-taken-count c = omega (arith, (stood (goal.at.loop-taken-smaller-then-taken-count c).Joined-taken-end).there)

pub loop-taken-preserved-then-taken-count : goal.loop-taken-preserved-then-taken-count
loop-taken-preserved-then-taken-count c =
    let r = stood (goal.at.loop-taken-preserved-then-taken-count c).Joined-taken-end in
    let told = c.in_default.is in
    (search rules, taken_more _ _ _ _ _ _ _ _ (search event_there) r.taken c.report_at-last.ensures.im_after _ told, books_event _ _ _ _ _ _ _ r.books _ _ c.report_at-last.ensures.im_after (search event_there) (search (stopped, r)) _ told, omega arith)

pub loop-taken-preserved : goal.loop-taken-preserved
loop-taken-preserved c = let r = stood (goal.at.loop-taken-preserved c).Joined-taken-end in (r.kept, r.taken, r.books, omega (arith, r.there))

pub shape_of-im : goal.shape_of-im
shape_of-im c = search lawful_long

pub shape_of-counts : goal.shape_of-counts
shape_of-counts c = c.loop-taken.invariant.2.long

pub returns : goal.returns
returns c = record { tallies = search books_all; ends = search all_end; lawful_2 = search rules }

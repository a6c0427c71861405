-- The reply is foretold: an accepted event whose count is at its end is not carried out, any other accepted one is counted and carried out.
use Rattle.std.proofs.lemmas.Result.{err_from_is_err_and}
use Rattle.careful.proofs.Counted.{one_full, one_counted, one_refused}
use borrow.Author.Rules.{rules}
use Rattle.careful.proofs.count_event.Goals as goal

pub returns-in_err-a : goal.returns-in_err-a
returns-in_err-a c =
    let p = err_from_is_err_and c.from_residual.result c.from_residual.ensures.1 in
    record { counts_one = rw (p.1, p.2) (one_refused _ _ _ _ _ c.foretold.ensures _ c.in_err-a.was); lawful_2 = search rules }

pub returns-then-passes_end : goal.returns-then-passes_end
returns-then-passes_end c = record { counts_one = one_full _ _ _ _ _ c.foretold.ensures _ c.in_ok-a.was _ c.tally_of-t.ensures _ c.passes_end.ensures c.if-passes_end.true; lawful_2 = search rules }

pub returns : goal.returns
returns c = record { counts_one = one_counted _ _ _ _ _ c.foretold.ensures _ c.in_ok-a.was _ c.tally_of-t.ensures _ c.passes_end.ensures c.if-passes_end.false _ c.count.ensures _ _ c.step.ensures.im_after; lawful_2 = search rules }

-- The rows up to the first that is used are right, and those from there on decide.
use Rattle.queue_rows.proofs.Passing.{rows_right, rows_left}
use Rattle.queue_rows.proofs.rows_right.Goals as goal

pub returns-then-end-used : goal.returns-then-end-used
returns-then-end-used c = rows_right _ _ _ _ _ _ (c.first_used-used.ensures c.args.messages) c.if-end-used.true

pub short_rows-requires : goal.short_rows-requires
short_rows-requires c = record { given_nonzero = c.requires.given_nonzero; rows_between = (c.first_used-used.ensures c.args.messages).left; end_in_bounds = c.requires.end_in_bounds }

pub returns-then-given-lt-SIXTEEN : goal.returns-then-given-lt-SIXTEEN
returns-then-given-lt-SIXTEEN c = rows_left _ _ _ _ _ _ (c.first_used-used.ensures c.args.messages) _ c.short_rows.ensures

pub long_rows-requires : goal.long_rows-requires
long_rows-requires c = record { le_given = (c.if-given-lt-SIXTEEN.false, c.requires.given_nonzero.1); rows_between = (c.first_used-used.ensures c.args.messages).left; end_in_bounds = c.requires.end_in_bounds }

pub returns : goal.returns
returns c = rows_left _ _ _ _ _ _ (c.first_used-used.ensures c.args.messages) _ c.long_rows.ensures

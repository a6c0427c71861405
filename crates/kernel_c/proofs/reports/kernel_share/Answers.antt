-- No share is told of counts of another length; else the share is written, where there is one.
use Rattle.kernel_c.proofs.PromisedOfReports.{shares_told, shares_none, shares_refused}
use Rattle.kernel_c.proofs.reports.kernel_share.Goals as goal

pub returns-then-counts-ne-COUNTS : goal.returns-then-counts-ne-COUNTS
returns-then-counts-ne-COUNTS c = shares_refused _ _ _ c.if-counts-ne-COUNTS.true

pub returns-in-Some : goal.returns-in-Some
returns-in-Some c = search shares_told

pub returns-in-None : goal.returns-in-None
returns-in-None c = search shares_none

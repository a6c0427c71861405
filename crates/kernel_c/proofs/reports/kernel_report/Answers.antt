-- Counts of another length are refused at once; else the run that counts is told in numbers.
use Rattle.kernel_c.proofs.PromisedOfReports.{reports_is, reports_refused}
use Rattle.kernel_c.proofs.reports.kernel_report.Goals as goal

pub returns-then-counts-ne-COUNTS : goal.returns-then-counts-ne-COUNTS
returns-then-counts-ne-COUNTS c = search (reports_refused, c.if-counts-ne-COUNTS.true)

pub returns : goal.returns
returns c = search reports_is

-- On a good image, whole events are counted up to the first refused one; else none is counted.
use Rattle.kernel.proofs.Promised.{run_lawful, report_fine, report_refused}
use Rattle.kernel.proofs.report_on.Goals as goal

pub count_events-requires-clause-lawful : goal.count_events-requires-clause-lawful
count_events-requires-clause-lawful c = run_lawful _ c.args.events.now _ c.in-Ok.ensures

pub returns-in-Ok : goal.returns-in-Ok
returns-in-Ok c = report_fine _ _ _ c.in-Ok.ensures _ _ _ _ c.count_events.ensures.counts_all

pub returns-in-Err : goal.returns-in-Err
returns-in-Err c = report_refused _ _ _ c.in-Err.ensures _

-- On a good image, whole events are taken up to the first refused one; else none is taken.
use Rattle.counting.specs.Growing.{none_room}
use Rattle.noting.specs.Ledgers.{none_ledger}
use Rattle.kernel.proofs.Promised.{run_lawful, run_fine, run_refused}
use Rattle.kernel.proofs.run.Goals as goal

pub take_events-requires-clause-lawful : goal.take_events-requires-clause-lawful
take_events-requires-clause-lawful c = run_lawful _ c.args.events.now _ c.in-Ok.ensures

pub take_events-requires-clause-ledger : goal.take_events-requires-clause-ledger
take_events-requires-clause-ledger c = search none_ledger

pub take_events-requires-clause-room : goal.take_events-requires-clause-room
take_events-requires-clause-room c = search none_room

pub returns-in-Ok : goal.returns-in-Ok
returns-in-Ok c = run_fine _ _ _ c.in-Ok.ensures _ _ _ c.take_events.ensures.ends c.ended.ensures

pub returns-in-Err : goal.returns-in-Err
returns-in-Err c = run_refused _ _ _ c.in-Err.ensures

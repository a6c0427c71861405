-- A list of one event ends with that event; it is counted nowhere.
use Rattle.counting.specs.Growing.{none_room}
use Rattle.noting.specs.Ledgers.{none_ledger}
use borrow.Author.Rules.{rules}
use Rattle.happening.proofs.step.Goals as goal

pub take_events-requires : goal.take_events-requires
take_events-requires c = record { lawful = search rules; order_table = search rules; events_len = search rules; ledger = search none_ledger; room = search none_room }

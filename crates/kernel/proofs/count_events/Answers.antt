-- Where all counts are there and have room, the list is taken as in a run; else its events are counted one by one.
use Rattle.noting.specs.Ledgers.{all_ledger}
use Rattle.kernel.proofs.Promised.{room_found, all_counted}
use borrow.Author.Rules.{rules}
use Rattle.kernel.proofs.count_events.Goals as goal

pub take_events-requires : goal.take_events-requires
take_events-requires c = record { lawful = search rules; order_table = search rules; events_len = search rules; ledger = search all_ledger; room = search room_found }

pub returns-then-has_room : goal.returns-then-has_room
returns-then-has_room c = record { counts_all = search (all_counted, room_found); lawful_2 = search rules }

-- Where there are counts the place is there; without counts nothing grows.
use Rattle.counting.specs.Growing.{room_at}
use Rattle.noting.specs.Ledgers.{none_grown}
use Rattle.noting.proofs.Noting.{ledger_there}
use Rattle.noting.proofs.note.Goals as goal

pub add-requires : goal.add-requires
add-requires c = record { k_in_bounds = ledger_there _ c.requires.ledger c.if-counts-ne0.true _ c.requires.k_lt_all_counts; room_at = room_at _ _ c.requires.room _ }

pub returns-else-counts-ne0 : goal.returns-else-counts-ne0
returns-else-counts-ne0 c = none_grown _ _ _ c.if-counts-ne0.false

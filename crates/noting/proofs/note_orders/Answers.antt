-- A row that faulted has one order less, and one fault.
use native.Mathlib.Omega.{arith}
use Rattle.counting.specs.Growing.{room_less}
use Rattle.noting.specs.Ledgers.{row_place}
use Rattle.noting.proofs.Noting.{row_faulted, row_fine, room_last, ledger_as}
use Rattle.noting.proofs.note_orders.Goals as goal

pub note-requires : goal.note-requires
note-requires c = record { ledger = c.requires.ledger; k_lt_all_counts = row_place _ _ _ c.place_of.ensures (omega arith) c.requires.t_lt_most_tasks; room = room_less _ _ _ c.requires.room (omega arith) }

pub note-requires-then-faulted : goal.note-requires-then-faulted
note-requires-then-faulted c = record { ledger = ledger_as _ _ _ _ c.requires.ledger c.note.ensures; k_lt_all_counts = row_place _ _ _ c.place_of-then-faulted.ensures (omega arith) c.requires.t_lt_most_tasks; room = room_last _ _ _ _ c.requires.room c.requires.n_nonzero c.note.ensures }

pub returns-then-faulted : goal.returns-then-faulted
returns-then-faulted c = row_faulted _ _ _ _ c.if-faulted.true _ _ _ _ c.place_of.ensures c.place_of-then-faulted.ensures c.note.ensures c.note-then-faulted.ensures

pub note-requires-2 : goal.note-requires-2
note-requires-2 c = record { ledger = c.requires.ledger; k_lt_all_counts = row_place _ _ _ c.place_of-2.ensures (omega arith) c.requires.t_lt_most_tasks; room = c.requires.room }

pub returns : goal.returns
returns c = row_fine _ _ _ _ c.if-faulted.false _ _ c.place_of-2.ensures c.note-2.ensures

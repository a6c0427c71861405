-- The flags tell whether the last order faulted; without counts nothing grows.
use Rattle.ticks.proofs.Needs.{lawful_sound}
use Rattle.noting.specs.Ledgers.{none_orders}
use Rattle.ticks.proofs.Tallying.{row_by_flags, task_few}
use borrow.Author.Rules.{rules}
use Rattle.ticks.proofs.note_row.Goals as goal

pub own-flags-requires : goal.own-flags-requires
own-flags-requires c = record { sound = lawful_sound _ _ c.requires.lawful; rowed = c.requires.rowed; k_bound = search rules }

pub note_orders-requires : goal.note_orders-requires
note_orders-requires c = record { ledger = c.requires.ledger; t_lt_most_tasks = task_few _ _ c.requires.lawful _ c.requires.rowed.known; room = c.requires.room; n_nonzero = c.requires.n_nonzero }

pub returns-then-counts-ne0 : goal.returns-then-counts-ne0
returns-then-counts-ne0 c = row_by_flags _ _ _ _ _ _ _ c.own-flags.ensures c.error_of.ensures c.note_orders.ensures

pub returns-else-counts-ne0 : goal.returns-else-counts-ne0
returns-else-counts-ne0 c = none_orders _ _ _ _ c.if-counts-ne0.false

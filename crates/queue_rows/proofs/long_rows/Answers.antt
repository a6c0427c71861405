-- The marks are made, and then the rows are gone over.
use mathlib.Core.Path.{◌∙◌}
use Prim.Native.Nat.{ℕ}
use native.Mathlib.Omega.{arith}
use lib.ListN.{length-replicate}
use Rattle.four_words.proofs.Many.{marks_made}
use Rattle.queue_rows.proofs.long_rows.Goals as goal

pub mark-requires : goal.mark-requires
mark-requires c = record { marks_len = length-replicate {A = ℕ} 96 0; most_capacity_bound = omega arith }

pub mark-requires-2 : goal.mark-requires-2
mark-requires-2 c = record { marks_len = c.mark.ensures.long ∙ length-replicate {A = ℕ} 96 0; most_capacity_bound = omega (arith, c.requires.le_given) }

pub marked_rows-requires : goal.marked_rows-requires
marked_rows-requires c = record { le_given = c.requires.le_given; rows_between = c.requires.rows_between; end_in_bounds = c.requires.end_in_bounds; marks = marks_made _ c.requires.le_given.1 _ _ c.mark.ensures c.mark-2.ensures }

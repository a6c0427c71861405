-- The leading words are those of a full queue of N, and the tasks follow in order.
use native.Mathlib.Omega.{arith}
use Rattle.writes.specs.Written.{then_on, kept_length}
use borrow.Author.Rules.{rules}
use Rattle.builds.proofs.put_ready.Goals as goal

pub put_numbers-requires : goal.put_numbers-requires
put_numbers-requires c = record { n_le_most_tasks = search rules; room_for = omega (arith, kept_length _ _ _ _ c.put_lead-slots.ensures.1) }

pub returns : goal.returns
returns c = (omega arith, then_on _ _ _ _ _ _ _ c.put_lead-slots.ensures.1 c.put_lead-slots.ensures.0 c.put_numbers.ensures.1)

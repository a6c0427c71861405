-- The image stays good, the buffers keep their lengths, and there are numbers left for the events of the buffers to come.
use mathlib.Core.Path.{refl}
use Prim.Native.Nat.{ℕ}
use native.Mathlib.Omega.{arith}
use lib.ListN.{length-replicate}
use borrow.Author.Rules.{rules}
use Rattle.runner_files.proofs.taking.run_events.Goals as goal

pub loop-turn-init : goal.loop-turn-init
loop-turn-init g c =
    ((c.requires, refl), (length-replicate {A = ℕ} 24576 0, length-replicate {A = ℕ} 131104 0), (omega arith, omega arith))

pub run_turn-requires : goal.run_turn-requires
run_turn-requires g c =
    let l = c.loop-turn.invariant in
    record {
      lawful = l.0.0;
      order_table = c.laid_out-table.ensures;
      buffers = record { bytes = l.1.0; lines = l.1.1; numbers = omega (arith, l.1.0, l.2.1) };
      kept_in_bounds = omega (arith, l.1.0, l.2.0);
    }

pub overflow_add-n : goal.overflow_add-n
overflow_add-n g c = omega (arith, c.in-Ok.ensures.turns.0, c.loop-turn.invariant.2.1)

pub loop-turn-preserved : goal.loop-turn-preserved
loop-turn-preserved g c =
    let l = c.loop-turn.invariant in
    let e = c.run_turn.ensures in
    ((e.lawful_2, search rules), (search rules, search rules), (c.in-Ok.ensures.turns.1, omega (arith, c.in-Ok.ensures.turns.0, l.2.1)))

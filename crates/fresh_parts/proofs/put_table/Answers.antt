-- The entries before k are written, and the next base is known.
use native.Mathlib.Omega.{arith}
use Rattle.writes.specs.Written.{kept_length}
use Rattle.fresh_parts.proofs.Repeating.{no_rows, row_more, row_room, rows_done}
use Rattle.fresh_parts.proofs.Making.{first_base, base_small, entry_made, next_base}
use Rattle.fresh_parts.proofs.put_table.Goals as goal

pub loop-k-init : goal.loop-k-init
loop-k-init c = (no_rows _ _ _, first_base _ _ c.requires.plan)

pub overflow_cast-base : goal.overflow_cast-base
overflow_cast-base c = omega (arith, base_small _ _ c.requires.plan _ _ c.loop-k.auto.k-end c.loop-k.invariant.1)

pub put_entry-next-requires : goal.put_entry-next-requires
put_entry-next-requires c = row_room _ _ _ _ _ _ c.loop-k.invariant.0 _ c.loop-k-test.true c.requires.room_for

pub overflow_add-base : goal.overflow_add-base
overflow_add-base c = omega (arith, base_small _ _ c.requires.plan _ _ c.loop-k.auto.k-end c.loop-k.invariant.1)

pub loop-k-preserved : goal.loop-k-preserved
loop-k-preserved c = (row_more _ _ _ _ _ _ c.loop-k.invariant.0 _ _ _ (entry_made c.args.s c.args.plan.now c.loop-k.k _ _ c.length_of-length.ensures c.loop-k.invariant.1) c.put_entry-next.ensures, next_base c.args.s c.args.plan.now c.loop-k.k _ _ c.length_of-length.ensures c.loop-k.invariant.1)

pub shape_of-out : goal.shape_of-out
shape_of-out c = kept_length _ _ _ _ c.loop-k.invariant.0.made

pub returns : goal.returns
returns c = rows_done _ _ _ _ _ _ c.loop-k.invariant.0 _ c.loop-k-test.false c.loop-k.auto.k-end

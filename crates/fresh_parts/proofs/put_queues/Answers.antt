-- The queues before row k are written.
use mathlib.Core.Path.{refl}
use Rattle.writes.specs.Written.{kept_length}
use Rattle.fresh_parts.proofs.Repeating.{no_rows, row_more, row_room, row_zeroed, rows_done}
use Rattle.fresh_parts.proofs.put_queues.Goals as goal

pub loop-k-init : goal.loop-k-init
loop-k-init c = no_rows _ _ _

pub put_queue-next-requires : goal.put_queue-next-requires
put_queue-next-requires c = record { capacity_le_most_capacity = c.requires.capacity_le_most_capacity; room_for = row_room _ _ _ _ _ _ c.loop-k.invariant _ c.loop-k-test.true c.requires.room_for; zeroed = row_zeroed _ _ _ _ _ _ c.loop-k.invariant _ c.loop-k-test.true c.requires.zeroed }

pub loop-k-preserved : goal.loop-k-preserved
loop-k-preserved c = row_more _ _ _ _ _ _ c.loop-k.invariant _ _ _ refl c.put_queue-next.ensures

pub shape_of-out : goal.shape_of-out
shape_of-out c = kept_length _ _ _ _ c.loop-k.invariant.made

pub returns : goal.returns
returns c = rows_done _ _ _ _ _ _ c.loop-k.invariant _ c.loop-k-test.false c.loop-k.auto.k-end

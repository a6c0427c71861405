-- The tasks before k are written.
use mathlib.Core.Path.{ap}
use Rattle.writes.specs.Written.{kept_length}
use Rattle.fresh_parts.specs.Writing.{fresh_task}
use Rattle.fresh_parts.proofs.Repeating.{no_rows, row_more, row_room, row_zeroed, rows_done}
use Rattle.fresh_parts.proofs.put_tasks.Goals as goal

pub loop-k-init : goal.loop-k-init
loop-k-init c = no_rows _ _ _

pub put_task-next-requires : goal.put_task-next-requires
put_task-next-requires c = record { room_for = row_room _ _ _ _ _ _ c.loop-k.invariant _ c.loop-k-test.true c.requires.room_for; zeroed = row_zeroed _ _ _ _ _ _ c.loop-k.invariant _ c.loop-k-test.true c.requires.zeroed }

pub loop-k-preserved : goal.loop-k-preserved
loop-k-preserved c = row_more _ _ _ _ _ _ c.loop-k.invariant _ _ _ (ap fresh_task c.length_of.ensures) c.put_task-next.ensures

pub shape_of-out : goal.shape_of-out
shape_of-out c = kept_length _ _ _ _ c.loop-k.invariant.made

pub returns : goal.returns
returns c = rows_done _ _ _ _ _ _ c.loop-k.invariant _ c.loop-k-test.false c.loop-k.auto.k-end

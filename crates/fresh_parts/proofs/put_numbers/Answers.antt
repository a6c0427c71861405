-- The numbers before k are written.
use mathlib.Core.Path.{refl}
use native.Mathlib.Omega.{arith}
use Rattle.writes.specs.Written.{kept_length}
use Rattle.fresh_parts.proofs.Repeating.{no_rows, row_more, row_room, rows_done}
use Rattle.fresh_parts.proofs.put_numbers.Goals as goal

pub loop-k-init : goal.loop-k-init
loop-k-init c = no_rows _ _ _

pub put_word-requires : goal.put_word-requires
put_word-requires c =
    let room = row_room _ _ _ _ _ _ c.loop-k.invariant _ c.loop-k-test.true c.requires.room_for in
    omega arith

pub loop-k-preserved : goal.loop-k-preserved
loop-k-preserved c = row_more _ _ _ _ _ _ c.loop-k.invariant _ _ _ refl (c.put_word.ensures.value, c.put_word.ensures.out_after)

pub shape_of-out : goal.shape_of-out
shape_of-out c = kept_length _ _ _ _ c.loop-k.invariant.made

pub returns : goal.returns
returns c = rows_done _ _ _ _ _ _ c.loop-k.invariant _ c.loop-k-test.false c.loop-k.auto.k-end

-- The segments before k are written, and where the next program starts is known.
use native.Mathlib.Omega.{arith}
use Rattle.writes.specs.Written.{kept_length}
use Rattle.fresh_parts.proofs.Repeating.{no_rows, rows_done}
use Rattle.fresh_parts.proofs.Making.{first_program, segment_asks, next_program, segment_room, segment_zeroed, segment_more}
use Rattle.fresh_parts.proofs.put_programs.Goals as goal

pub loop-k-init : goal.loop-k-init
loop-k-init c = (no_rows _ _ _, first_program _ _ c.requires.plan)

pub overflow_add-end : goal.overflow_add-end
overflow_add-end c =
    let asks = segment_asks _ _ c.requires.plan _ _ _ _ c.loop-k-test.true c.length_of-length.ensures c.program_of.ensures c.loop-k.invariant.1 in
    omega (arith, c.well_formed)

pub offset_bounds-plan-from : goal.offset_bounds-plan-from
offset_bounds-plan-from c =
    let asks = segment_asks _ _ c.requires.plan _ _ _ _ c.loop-k-test.true c.length_of-length.ensures c.program_of.ensures c.loop-k.invariant.1 in
    omega (arith, c.well_formed)

pub slice_bounds-put_segment-end : goal.slice_bounds-put_segment-end
slice_bounds-put_segment-end c =
    let asks = segment_asks _ _ c.requires.plan _ _ _ _ c.loop-k-test.true c.length_of-length.ensures c.program_of.ensures c.loop-k.invariant.1 in
    omega arith

pub put_segment-next-requires : goal.put_segment-next-requires
put_segment-next-requires c =
    let asks = segment_asks _ _ c.requires.plan _ _ _ _ c.loop-k-test.true c.length_of-length.ensures c.program_of.ensures c.loop-k.invariant.1 in
    record {
      program_in_bounds = asks.2;
      length_bound = segment_room _ _ c.requires.plan _ _ _ _ c.loop-k-test.true c.length_of-length.ensures c.program_of.ensures c.loop-k.invariant.1 _ _ _ _ c.loop-k.invariant.0 c.requires.room_for;
      zeroed = segment_zeroed _ _ c.requires.plan _ _ _ _ c.loop-k-test.true c.length_of-length.ensures c.program_of.ensures c.loop-k.invariant.1 _ _ _ _ c.loop-k.invariant.0 _ c.requires.zeroed;
    }

pub loop-k-preserved : goal.loop-k-preserved
loop-k-preserved c =
    let w = c.put_segment-next.ensures in (
      segment_more _ _ c.requires.plan _ _ _ _ c.loop-k-test.true c.length_of-length.ensures c.program_of.ensures c.loop-k.invariant.1 _ _ _ _ c.loop-k.invariant.0 _ _ w.result_value w.out_after,
      next_program _ _ c.requires.plan _ _ _ _ c.loop-k-test.true c.length_of-length.ensures c.program_of.ensures c.loop-k.invariant.1,
    )

pub shape_of-out : goal.shape_of-out
shape_of-out c = kept_length _ _ _ _ c.loop-k.invariant.0.made

pub returns : goal.returns
returns c = (rows_done _ _ _ _ _ _ c.loop-k.invariant.0 _ c.loop-k-test.false c.loop-k.auto.k-end).1

-- A segment lies in its image.
use native.Mathlib.Omega.{arith}
use Rattle.showing.proofs.Segments.{segment_in, segment_few}
use Rattle.showing.proofs.show_task.Goals as goal

pub slice_bounds-put_segment-end : goal.slice_bounds-put_segment-end
slice_bounds-put_segment-end g c = omega (arith, segment_in _ _ _ c.requires.sound c.requires.t_lt_n _ _ c.entry-from.ensures c.entry.ensures)

pub put_segment-requires : goal.put_segment-requires
put_segment-requires g c = segment_few _ _ _ c.requires.sound c.requires.t_lt_n _ _ c.entry.ensures

-- The ports are 0 already, and the segment table and the segments follow them up to T.
use mathlib.Core.Path.{refl}
use native.Mathlib.Omega.{arith}
use lib.Dec.{lit<}
use Rattle.builds.proofs.Growing.{part_room, part_built, zeros_built, image_built}
use Rattle.builds.proofs.put_rest.Goals as goal

pub overflow_add-table : goal.overflow_add-table
overflow_add-table c = omega (arith, part_room _ _ c.requires.plan 8 _ _ _ (zeros_built _ _ c.requires.plan 7 _ _ _ c.requires.built_upto refl (lit< tt)) (lit< tt))

pub put_table-segments-requires : goal.put_table-segments-requires
put_table-segments-requires c = record { plan = c.requires.plan; room_for = part_room _ _ c.requires.plan 8 _ _ _ (zeros_built _ _ c.requires.plan 7 _ _ _ c.requires.built_upto refl (lit< tt)) (lit< tt) }

pub put_segments-requires : goal.put_segments-requires
put_segments-requires c =
    let b = zeros_built _ _ c.requires.plan 7 _ _ _ c.requires.built_upto refl (lit< tt) in
    record { plan = c.requires.plan; room_for = part_room _ _ c.requires.plan 9 _ _ _ (part_built _ _ c.requires.plan 8 _ _ _ b _ _ c.put_table-segments.ensures (lit< tt)) (lit< tt) }

pub returns : goal.returns
returns c =
    let b = zeros_built _ _ c.requires.plan 7 _ _ _ c.requires.built_upto refl (lit< tt) in
    image_built _ _ c.requires.plan _ _ _ (part_built _ _ c.requires.plan 8 _ _ _ b _ _ c.put_table-segments.ensures (lit< tt)) _ c.put_segments.ensures

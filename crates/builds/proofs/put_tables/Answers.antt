-- Each part begins where the one before ends.
use lib.Dec.{lit<}
use Rattle.fresh_parts.specs.Accepted.{plan_fit}
use Rattle.builds.proofs.Growing.{part_room, part_asks, part_built}
use Rattle.builds.proofs.put_tables.Goals as goal

pub put_header-tasks-requires : goal.put_header-tasks-requires
put_header-tasks-requires c = record { packed = c.requires.packed; s_bound = (plan_fit _ _ c.requires.plan).words; header_words_bound = part_room _ _ c.requires.plan 0 _ _ _ c.requires.built_upto (lit< tt) }

pub put_tasks-ready-requires : goal.put_tasks-ready-requires
put_tasks-ready-requires c =
    let b = part_built _ _ c.requires.plan 0 _ _ _ c.requires.built_upto _ _ c.put_header-tasks.ensures (lit< tt) in
    let asks = part_asks _ _ c.requires.plan 1 _ _ _ b (lit< tt) in
    record { plan = c.requires.plan; room_for = asks.0; zeroed = asks.1 }

pub put_ready-requires : goal.put_ready-requires
put_ready-requires c =
    let b = part_built _ _ c.requires.plan 0 _ _ _ c.requires.built_upto _ _ c.put_header-tasks.ensures (lit< tt) in
    record { plan = c.requires.plan; room_for = part_room _ _ c.requires.plan 2 _ _ _ (part_built _ _ c.requires.plan 1 _ _ _ b _ _ c.put_tasks-ready.ensures (lit< tt)) (lit< tt) }

pub returns : goal.returns
returns c =
    let b = part_built _ _ c.requires.plan 0 _ _ _ c.requires.built_upto _ _ c.put_header-tasks.ensures (lit< tt) in
    let d = part_built _ _ c.requires.plan 1 _ _ _ b _ _ c.put_tasks-ready.ensures (lit< tt) in
    part_built _ _ c.requires.plan 2 _ _ _ d _ _ c.put_ready.ensures (lit< tt)

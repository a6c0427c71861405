-- The status table is there; the three kinds of buffers follow, and the words of each are 0 till it is written.
use mathlib.Core.Path.{refl}
use native.Mathlib.Omega.{arith}
use lib.Dec.{lit<}
use Rattle.headers.specs.Shaped.{square_small}
use Rattle.fresh_parts.specs.Accepted.{plan_fit}
use Rattle.builds.proofs.Growing.{part_room, part_asks, part_built, zeros_built}
use Rattle.builds.proofs.put_buffers.Goals as goal

pub overflow_add-inputs : goal.overflow_add-inputs
overflow_add-inputs c = omega (arith, part_room _ _ c.requires.plan 4 _ _ _ (zeros_built _ _ c.requires.plan 3 _ _ _ c.requires.built_upto refl (lit< tt)) (lit< tt))

pub put_queues-outputs-requires : goal.put_queues-outputs-requires
put_queues-outputs-requires c =
    let b = zeros_built _ _ c.requires.plan 3 _ _ _ c.requires.built_upto refl (lit< tt) in
    let asks = part_asks _ _ c.requires.plan 4 _ _ _ b (lit< tt) in
    record { capacity_le_most_capacity = (plan_fit _ _ c.requires.plan).inputs.1; room_for = asks.0; zeroed = asks.1 }

pub put_queues-messages-requires : goal.put_queues-messages-requires
put_queues-messages-requires c =
    let b = zeros_built _ _ c.requires.plan 3 _ _ _ c.requires.built_upto refl (lit< tt) in
    let d = part_built _ _ c.requires.plan 4 _ _ _ b _ _ c.put_queues-outputs.ensures (lit< tt) in
    let asks = part_asks _ _ c.requires.plan 5 _ _ _ d (lit< tt) in
    record { capacity_le_most_capacity = (plan_fit _ _ c.requires.plan).outputs.1; room_for = asks.0; zeroed = asks.1 }

pub overflow_mul-n : goal.overflow_mul-n
overflow_mul-n c = omega (arith, square_small _ c.requires.plan.few)

pub put_queues-requires : goal.put_queues-requires
put_queues-requires c =
    let b = zeros_built _ _ c.requires.plan 3 _ _ _ c.requires.built_upto refl (lit< tt) in
    let d = part_built _ _ c.requires.plan 4 _ _ _ b _ _ c.put_queues-outputs.ensures (lit< tt) in
    let e = part_built _ _ c.requires.plan 5 _ _ _ d _ _ c.put_queues-messages.ensures (lit< tt) in
    let asks = part_asks _ _ c.requires.plan 6 _ _ _ e (lit< tt) in
    record { capacity_le_most_capacity = (plan_fit _ _ c.requires.plan).messages.1; room_for = asks.0; zeroed = asks.1 }

pub returns : goal.returns
returns c =
    let b = zeros_built _ _ c.requires.plan 3 _ _ _ c.requires.built_upto refl (lit< tt) in
    let d = part_built _ _ c.requires.plan 4 _ _ _ b _ _ c.put_queues-outputs.ensures (lit< tt) in
    let e = part_built _ _ c.requires.plan 5 _ _ _ d _ _ c.put_queues-messages.ensures (lit< tt) in
    part_built _ _ c.requires.plan 6 _ _ _ e _ _ c.put_queues.ensures (lit< tt)

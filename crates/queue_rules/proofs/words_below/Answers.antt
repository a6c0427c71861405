-- The queue's row, by its place.
use native.Mathlib.Omega.{arith}
use Rattle.laws.specs.Sound.{sized_fit}
use Rattle.queue_rules.proofs.Held.{head_found, head_placed, given_fits}
use Rattle.queue_rules.proofs.Buffers.{words_below, row_inside}
use Rattle.queue_rules.proofs.words_below.Goals as goal

pub head_of-requires : goal.head_of-requires
head_of-requires c = search sized_fit

pub place_of-p-requires : goal.place_of-p-requires
place_of-p-requires c = record { fit = sized_fit _ _ c.requires.sized; valid = head_found c.args.s c.args.q _ c.head_of.ensures c.requires.has }

pub slots_below-requires : goal.slots_below-requires
slots_below-requires c =
    let here = head_placed _ c.args.q _ _ c.head_of.ensures c.place_of-p.ensures in
    let given = c.capacity_of.ensures in
    record { from_lt_given = (omega (arith, given, c.requires.from_bound), (given_fits _ _ c.args.q _ c.requires.sized given).1); given_in_bounds = omega (arith, given, row_inside _ _ c.requires.sized c.args.q c.requires.has _ here) }

pub returns : goal.returns
returns c =
    let here = head_placed _ c.args.q _ _ c.head_of.ensures c.place_of-p.ensures in
    words_below _ _ c.requires.sized c.args.q c.requires.has _ here c.requires.q_value _ _ _ _ c.capacity_of.ensures _ c.slots_below.ensures

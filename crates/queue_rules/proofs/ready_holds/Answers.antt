-- Its row is right, and is not typed.
use Rattle.laws.specs.Sound.{sized_fit}
use Rattle.queue_rules.proofs.Buffers.{ready_fits, ready_decides}
use Rattle.queue_rules.proofs.ready_holds.Goals as goal

pub start_of-requires : goal.start_of-requires
start_of-requires c = search sized_fit

pub row_right-requires : goal.row_right-requires
row_right-requires c =
    let f = ready_fits _ _ c.requires _ c.start_of.ensures in
    record { given_le_most_capacity = f.0; given_in_bounds = f.1 }

pub returns : goal.returns
returns c = ready_decides _ _ c.requires _ c.start_of.ensures _ c.row_right.ensures

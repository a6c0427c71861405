-- N, S and the capacities are read from the plan, and the packed offsets follow from them.
use Rattle.plans.proofs.Measured.{sizes_ranged, planned_shape, planned_packed}
use Rattle.plans.proofs.shape_with.Goals as goal

pub offsets-starts-requires : goal.offsets-starts-requires
offsets-starts-requires c = search sizes_ranged

pub returns : goal.returns
returns c = record { value = search planned_shape; packed = search (planned_packed, sizes_ranged) }

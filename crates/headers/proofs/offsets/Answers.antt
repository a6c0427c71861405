-- Each part starts where the one before ends, and all the numbers are small enough to add.
use native.Mathlib.Omega.{arith}
use Rattle.headers.specs.Shaped.{square_small}
use Rattle.headers.proofs.Tested.{offsets_made}
use Rattle.headers.proofs.offsets.Goals as goal

pub overflow_mul-n : goal.overflow_mul-n
overflow_mul-n c = omega (arith, square_small _ c.requires.tasks.1)

pub end_of-ports-requires : goal.end_of-ports-requires
end_of-ports-requires c = (omega arith, square_small _ c.requires.tasks.1, omega arith)

pub end_of-segments-requires : goal.end_of-segments-requires
end_of-segments-requires c =
    let r = c.requires in
    (omega arith, omega (arith, r.tasks), omega arith)

pub returns : goal.returns
returns c = offsets_made c.args.s _ _ _ _ _ _ _ _ c.end_of-ready.ensures.0 c.end_of-status.ensures.0 c.end_of-inputs.ensures.0 c.end_of-outputs.ensures.0 c.end_of-messages.ensures.0 c.end_of-ports.ensures.0 c.end_of-table.ensures.0 c.end_of-segments.ensures.0

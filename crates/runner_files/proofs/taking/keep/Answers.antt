-- The bytes that are moved lie behind those that are written.
use native.Mathlib.Omega.{arith}
use Rattle.runner_files.proofs.Turning.{bytes_moved}
use Rattle.runner_files.proofs.taking.keep.Goals as goal

pub returns : goal.returns
returns c = (omega (arith, c.requires.0), bytes_moved _ _ _ _ c.copy_within.ensures.len c.copy_within.ensures.by_index)

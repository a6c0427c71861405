-- Where the words are 0, a fresh task has only R1 to be written.
use native.Mathlib.Omega.{arith}
use Rattle.fresh_parts.proofs.Making.{task_in_zeros}
use Rattle.fresh_parts.proofs.put_task.Goals as goal

pub returns : goal.returns
returns c = (omega arith, search task_in_zeros)

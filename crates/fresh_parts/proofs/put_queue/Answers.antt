-- Where the words are 0, a fresh queue has only its capacity to be written.
use native.Mathlib.Omega.{arith}
use lib.ListN.{length-replicate}
use Rattle.fresh_parts.proofs.Making.{queue_in_zeros}
use Rattle.fresh_parts.proofs.put_queue.Goals as goal

pub returns : goal.returns
returns c = (simp length-replicate (omega arith), search queue_in_zeros)

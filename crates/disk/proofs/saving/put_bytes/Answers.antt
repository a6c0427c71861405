-- The bytes of the words passed are put.
use native.Mathlib.Omega.{arith}
use Rattle.disk.proofs.Bytes.{put_none, put_pair, put_all}
use Rattle.disk.proofs.saving.put_bytes.Goals as goal

pub loop-k-init : goal.loop-k-init
loop-k-init c = put_none _ _ c.requires.bytes_len

pub loop-k-preserved : goal.loop-k-preserved
loop-k-preserved c = put_pair _ _ _ _ c.loop-k.invariant (omega arith) (omega arith) (omega (arith, c.type_inv.words c.loop-k.k)) c.to_le_bytes.ensures

pub returns : goal.returns
returns c = record { bytes_len_2 = c.loop-k.invariant.long; bytes_after = put_all _ _ _ c.loop-k.invariant (omega arith) }

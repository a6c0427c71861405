-- What is put ends where the two texts do, inside the list.
use native.Mathlib.Omega.{arith}
use Rattle.disk.proofs.Bytes.{counted}
use Rattle.disk.proofs.saving.put_beside.Goals as goal

pub returns : goal.returns
returns c = counted _ _ (omega arith)

-- Eight bytes, of which the first are those asked for, or those alone.
use Rattle.std.proofs.Common.{arith, ◌∙◌}
use Rattle.packing.specs.Packed.{bytes_of}
use Rattle.packing.specs.Placing.{bytes_length}
use Rattle.packing.proofs.Bytes.{all_unpacked, some_unpacked, copied_placed}
use Rattle.packing.proofs.put_packed.Goals as goal

pub returns-then-at-end-clause-value : goal.returns-then-at-end-clause-value
returns-then-at-end-clause-value c = rw (bytes_length c.args.p)

pub returns-then-at-end-clause-placed : goal.returns-then-at-end-clause-placed
unfolding bytes_of
returns-then-at-end-clause-placed c =
    copied_placed _ _ _ _ _ 8 _ _ (c.copy_from_slice.ensures.after ∙ c.to_le_bytes.ensures ∙ all_unpacked _) (omega arith) (omega arith) c.if-at-end.true (omega arith)

pub returns-clause-value : goal.returns-clause-value
returns-clause-value c = rw (bytes_length c.args.p)

pub returns-clause-placed : goal.returns-clause-placed
unfolding bytes_of
returns-clause-placed c =
    let e = rw c.to_le_bytes-all.ensures at c.copy_from_slice-2.ensures.after in
    copied_placed _ _ _ _ _ c.args.p.bytes _ _ (e ∙ some_unpacked _ _ c.requires.bytes_bound) (omega arith) (omega arith) (omega arith) (omega arith)

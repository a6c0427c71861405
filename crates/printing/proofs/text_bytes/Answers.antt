-- After k words the text up to `bytes` is counted.
use native.Mathlib.Omega.{arith}
use Rattle.printing.proofs.Counted.{flag_times}
use Rattle.printing.proofs.Reached.{reached_none, reached_next, reached_all, row_for}
use borrow.Author.Rules.{rules}
use Rattle.printing.proofs.text_bytes.Goals as goal

pub loop-k-init : goal.loop-k-init
loop-k-init c = (reached_none _, omega arith)

pub piece_bytes-bytes-requires : goal.piece_bytes-bytes-requires
piece_bytes-bytes-requires c =
    let row = c.row_at-row.ensures in
    let at = c.loop-k.invariant.0 in
    record { row_lt_rows_end = row.upper_bound; starts_bound = at.flag; row_for = row_for _ _ _ _ _ at (omega arith) row.value }

pub overflow_add-bytes : goal.overflow_add-bytes
overflow_add-bytes c =
    let few = c.piece_bytes-bytes.ensures.upper_bound in
    let all = c.loop-k.invariant.1 in
    search (few, all, rules)

pub overflow_mul-starts : goal.overflow_mul-starts
overflow_mul-starts c =
    let few = flag_times _ c.seconds.result c.loop-k.invariant.0.flag in
    search (few, rules)

pub overflow_sub-starts : goal.overflow_sub-starts
overflow_sub-starts c =
    let few = flag_times _ c.seconds.result c.loop-k.invariant.0.flag in
    omega (arith, c.seconds.ensures.upper_bound)

pub loop-k-preserved : goal.loop-k-preserved
loop-k-preserved c =
    let row = c.row_at-row.ensures in
    let bytes = c.piece_bytes-bytes.ensures in
    (reached_next _ _ _ _ _ c.loop-k.invariant.0 (omega arith) row.value _ _ (omega (arith, bytes.value)) c.seconds.ensures.value, omega (arith, bytes.upper_bound, c.loop-k.invariant.1))

pub returns : goal.returns
returns c = reached_all _ _ _ _ c.loop-k.invariant.0 (omega arith)

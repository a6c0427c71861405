-- The text that an entry stands in is chosen by the test.
use Prim.Native.Nat.{◌^◌}
use native.Mathlib.Nat.{add-sub_cancel_left}
use native.Mathlib.Omega.{arith}
use borrow.Author.Tests.{lt-ltb, le-ltb}
use Rattle.tables.specs.Tables.{text_at}
use Rattle.tables.proofs.Laws.{text_in_range}
use Rattle.tables.proofs.word_of.Goals as goal

pub overflow_add-to : goal.overflow_add-to
overflow_add-to c = omega (arith, text_in_range c.args.names.now c.args.script.now c.args.split c.args.k (2 ^ 64) (omega arith) (omega arith))

pub slice_bounds-result-end : goal.slice_bounds-result-end
slice_bounds-result-end c = omega (arith, rw (lt-ltb _ _ c.if-k-split.true, text_at) at c.requires)

pub slice_bounds-result-end-else-k-split : goal.slice_bounds-result-end-else-k-split
slice_bounds-result-end-else-k-split c = omega (arith, rw (le-ltb _ _ c.if-k-split.false, text_at) at c.requires)

pub returns-then-k-split : goal.returns-then-k-split
returns-then-k-split c = simp (lt-ltb _ _ c.if-k-split.true, text_at, add-sub_cancel_left)

pub returns-else-k-split : goal.returns-else-k-split
returns-else-k-split c = simp (le-ltb _ _ c.if-k-split.false, text_at, add-sub_cancel_left)

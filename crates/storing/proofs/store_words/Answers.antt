-- The invariant: with the words of the lines left stored, the target holds those of all lines. The measure is what is left of the script.
use native.Mathlib.Omega.{arith}
use Rattle.giving.proofs.Lines.{line_within, no_lines}
use Rattle.storing.proofs.Laws.{line_fits, one_line_more, all_so_far}
use Rattle.storing.proofs.store_words.Goals as goal

pub overflow_add-end : goal.overflow_add-end
overflow_add-end c = omega (arith, line_within _ _ _ c.loop-at-test.true c.line_count.ensures)

pub store_line-k-requires-clause-at_le_end : goal.store_line-k-requires-clause-at_le_end
store_line-k-requires-clause-at_le_end c = (omega arith, line_within _ _ _ c.loop-at-test.true c.line_count.ensures)

pub store_line-k-requires-clause-end_in_bounds : goal.store_line-k-requires-clause-end_in_bounds
store_line-k-requires-clause-end_in_bounds c = line_fits _ _ _ _ _ _ c.loop-at.invariant _ c.loop-at-test.true c.line_count.ensures c.requires.script_in_bounds

pub overflow_add-at : goal.overflow_add-at
overflow_add-at c = omega (arith, line_within _ _ _ c.loop-at-test.true c.line_count.ensures)

pub loop-at-preserved : goal.loop-at-preserved
loop-at-preserved c = one_line_more _ _ _ _ _ _ c.loop-at.invariant _ c.loop-at-test.true c.line_count.ensures _ _ c.store_line-k.ensures.value c.store_line-k.ensures.target_after

pub returns : goal.returns
returns c = all_so_far _ _ _ _ _ _ c.loop-at.invariant (no_lines _ _ c.loop-at-test.false)

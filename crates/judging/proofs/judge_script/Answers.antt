-- The invariant: the lines left, judged from what the lines so far have left, come to what all lines come to. The measure is what is left of the script.
use native.Mathlib.Omega.{arith}
use Rattle.giving.proofs.Lines.{line_within, no_lines}
use Rattle.judging.proofs.Laws.{so_known, one_line_more, all_so_far}
use Rattle.judging.proofs.judge_script.Goals as goal

pub overflow_add-end : goal.overflow_add-end
overflow_add-end c = omega (arith, line_within _ _ _ c.loop-at-test.true c.line_count.ensures)

pub judge_line-past-requires-clause-at_le_end : goal.judge_line-past-requires-clause-at_le_end
judge_line-past-requires-clause-at_le_end c = (omega arith, line_within _ _ _ c.loop-at-test.true c.line_count.ensures)

pub judge_line-past-requires-clause-known_label : goal.judge_line-past-requires-clause-known_label
judge_line-past-requires-clause-known_label c = so_known _ _ _ _ _ _ _ _ _ _ _ c.loop-at.invariant _ c.loop-at-test.true c.line_count.ensures

pub overflow_add-at : goal.overflow_add-at
overflow_add-at c = omega (arith, line_within _ _ _ c.loop-at-test.true c.line_count.ensures)

pub loop-at-preserved : goal.loop-at-preserved
loop-at-preserved c = one_line_more _ _ _ _ _ _ _ _ _ _ _ c.loop-at.invariant _ c.loop-at-test.true c.line_count.ensures _ _ _ c.judge_line-past.ensures

pub returns : goal.returns
returns c = all_so_far _ _ _ _ _ _ _ _ _ _ _ c.loop-at.invariant _ _ _ (no_lines _ _ c.loop-at-test.false) c.with_room.ensures c.judge_by.ensures

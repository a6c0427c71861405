-- `read_names` meets its contract. The loop's invariant: with the lines from `at` on, the lines so far give what all lines do. The measure is what is
-- left of the names. Assumes nothing.
use native.Mathlib.Omega.{arith}
use Rattle.giving.proofs.Lines.{line_within}
use Rattle.naming.proofs.NamesRead.{no_name_passed, name_passed, names_passed}
use Rattle.naming.proofs.names.read_names.Goals as goal

pub loop-at-init : goal.loop-at-init
loop-at-init c = no_name_passed _ _ _ c.requires.chained c.requires.headed

pub overflow_add-end : goal.overflow_add-end
overflow_add-end c = omega (arith, line_within _ _ _ c.loop-at-test.true c.line_count.ensures)

pub overflow_add-at : goal.overflow_add-at
overflow_add-at c = omega (arith, line_within _ _ _ c.loop-at-test.true c.line_count.ensures)

pub read_name-past-requires-clause-at_le_end : goal.read_name-past-requires-clause-at_le_end
read_name-past-requires-clause-at_le_end c = (omega arith, line_within _ _ _ c.loop-at-test.true c.line_count.ensures)

pub loop-at-preserved : goal.loop-at-preserved
loop-at-preserved c = name_passed _ _ _ _ _ _ _ _ _ _ _ c.loop-at.invariant c.loop-at-test.true c.line_count.ensures c.read_name-past.ensures

pub returns : goal.returns
returns c = names_passed _ _ _ _ _ _ c.loop-at.invariant c.loop-at-test.false

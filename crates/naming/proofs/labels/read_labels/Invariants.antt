-- `read_labels` meets its contract. The loop's invariant: with the lines from `at` on, the lines so far give the labels that all lines do, and they
-- have at most two words for each byte. The measure is what is left of the script. Assumes nothing.
use Prim.Native.Nat.{◌-◌}
use lib.ListN.{length}
use Rattle.tables.specs.Tables.{table}
use Rattle.naming.proofs.LabelsRead.{LabelsPassed}
use Rattle.naming.proofs.labels.read_labels.Given as goal

abbrev pub invariant-loop-at : goal.invariant-loop-at
invariant-loop-at l = LabelsPassed (table l.names l.script l.split l.initial.froms l.initial.counts l.initial.values l.initial.nexts) (table l.names l.script l.split l.froms l.counts l.values l.nexts) l.split l.heads l.script l.filled l.place l.at

abbrev pub decreases-loop-at : goal.decreases-loop-at
decreases-loop-at l = length l.script - l.at

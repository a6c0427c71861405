-- The invariant: the lines left, judged from what the lines so far have left, come to what all lines come to. The measure is what is left of the script.
use Prim.Native.Nat.{◌-◌}
use lib.ListN.{length}
use Rattle.tables.specs.Tables.{table}
use Rattle.judging.proofs.Laws.{SoFar}
use Rattle.judging.proofs.judge_script.Given as goal

abbrev pub invariant-loop-at : goal.invariant-loop-at
invariant-loop-at l = SoFar (table l.names l.script l.split l.froms l.counts l.values l.nexts) l.split l.filled l.script l.initial.fault l.fault l.above l.words l.at l.last l.stop

abbrev pub decreases-loop-at : goal.decreases-loop-at
decreases-loop-at l = length l.script - l.at

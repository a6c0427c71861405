-- The invariant: with the words of the lines left stored, the target holds those of all lines. The measure is what is left of the script.
use Prim.Native.Nat.{◌-◌}
use lib.ListN.{length}
use Rattle.tables.specs.Tables.{table, entries}
use Rattle.storing.proofs.Laws.{SoFar}
use Rattle.storing.proofs.store_words.Given as goal

abbrev pub invariant-loop-at : goal.invariant-loop-at
invariant-loop-at l = SoFar (entries (table l.names l.script l.split l.froms l.counts l.values l.nexts) l.filled) l.script l.initial.target l.target l.k l.at

abbrev pub decreases-loop-at : goal.decreases-loop-at
decreases-loop-at l = length l.script - l.at

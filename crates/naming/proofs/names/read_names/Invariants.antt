-- `read_names` meets its contract. The loop's invariant: with the lines from `at` on, the lines so far give what all lines do. The measure is what is
-- left of the names. Assumes nothing.
use Prim.Native.Nat.{◌-◌}
use lib.ListN.{length}
use Rattle.tables.specs.Tables.{table, most}
use Rattle.naming.proofs.NamesRead.{NamesPassed}
use Rattle.naming.proofs.names.read_names.Given as goal

abbrev pub invariant-loop-at : goal.invariant-loop-at
invariant-loop-at l = NamesPassed (table l.names l.script most l.froms l.counts l.values l.nexts) l.heads l.names l.filled l.fault l.at

abbrev pub decreases-loop-at : goal.decreases-loop-at
decreases-loop-at l = length l.names - l.at

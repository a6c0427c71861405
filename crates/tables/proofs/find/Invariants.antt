-- From each entry that is come to, the chain leads to what is found from the first. The measure is how many entries there are up to it.
use Prim.Native.Nat.{◌≤◌}
use Rattle.tables.specs.Tables.{table, above, most}
use Rattle.tables.proofs.Laws.{Leads}
use Rattle.tables.proofs.find.Given as goal

abbrev pub invariant-loop-k : goal.invariant-loop-k
invariant-loop-k l = (l.filled ≤ most) × Leads (table l.names l.script l.split l.froms l.counts l.values l.nexts) l.filled (above l.filled l.link) l.word l.k

abbrev pub decreases-loop-k : goal.decreases-loop-k
decreases-loop-k l = above l.filled l.k

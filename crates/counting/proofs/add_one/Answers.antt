-- A count that is not there stays so.
use Rattle.counting.proofs.Counting.{out_same}
use borrow.Author.Rules.{rules}
use Rattle.counting.proofs.add_one.Goals as goal

pub returns-else-k-counts : goal.returns-else-k-counts
returns-else-k-counts c = search (out_same, rules)

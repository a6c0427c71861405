-- The and of two words is the definition's, bit by bit.
use borrow.Author.Rules.{rules}
use Rattle.results.proofs.Words.{and_is}
use Rattle.results.proofs.both_bits.Goals as goal

pub returns : goal.returns
returns c = search (and_is, rules)

-- The or of two words is the definition's, bit by bit.
use borrow.Author.Rules.{rules}
use Rattle.results.proofs.Words.{or_is}
use Rattle.results.proofs.either_bit.Goals as goal

pub returns : goal.returns
returns c = search (or_is, rules)

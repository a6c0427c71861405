-- The exclusive or of two words is the definition's, bit by bit.
use borrow.Author.Rules.{rules}
use Rattle.results.proofs.Words.{xor_is}
use Rattle.results.proofs.one_bit.Goals as goal

pub returns : goal.returns
returns c = search (xor_is, rules)

-- What comes of the token that the loop has come to comes of the first. Each call has fewer tokens before it, or reads what is less than what calls it.
use Rattle.std.proofs.Common.{◌+◌, ◌*◌, length, Ok}
use Rattle.grammar.specs.declared.Sign.{Sign}
use Rattle.tokens.specs.Shown.{shown}
use Rattle.tables.specs.Tables.{table, entries}
use Rattle.sums.proofs.Ways.{ProductOn, SumOn}
use Rattle.sums.proofs.+product_sum_term.Given as goal

abbrev pub decreases-product : goal.decreases-product
decreases-product l = 3 * length (shown l.line.now l.next) + 1

abbrev pub decreases-sum : goal.decreases-sum
decreases-sum l = 3 * length (shown l.line.now l.next) + 2

abbrev pub decreases-term : goal.decreases-term
decreases-term l = 3 * length (shown l.line.now l.next)

abbrev pub invariant-product-loop-t : goal.invariant-product-loop-t
invariant-product-loop-t l =
    ProductOn (entries (table l.names l.script l.split l.froms l.counts l.values l.nexts) l.filled) l.depth l.line (Ok 1) l.fn.next l.value l.first

abbrev pub decreases-product-loop-t : goal.decreases-product-loop-t
decreases-product-loop-t l = length (shown l.line l.first)

abbrev pub invariant-sum-loop-p : goal.invariant-sum-loop-p
invariant-sum-loop-p l =
    SumOn (entries (table l.names l.script l.split l.froms l.counts l.values l.nexts) l.filled) l.depth l.line Sign.Plus (Ok 0) l.fn.next l.sign l.value l.first

abbrev pub decreases-sum-loop-p : goal.decreases-sum-loop-p
decreases-sum-loop-p l = length (shown l.line l.first)

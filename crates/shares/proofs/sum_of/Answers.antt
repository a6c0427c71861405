-- The library's sum of the counts is the paper's, and no count is above its end.
use Rattle.std.proofs.Common.{◌≡◌, ◌∙◌, arith, rules}
use Rattle.std.specs.Prelude.{sum as list_sum}
use Rattle.counting.specs.Growing.{sum_bounded}
use Rattle.shares.proofs.Sums.{sum_listed}
use Rattle.shares.proofs.sum_of.Goals as goal

pub returns-clause-value : goal.returns-clause-value
returns-clause-value c =
    let e : c.sum.result ≡ list_sum c.args.counts.now = search rules in
    e ∙ sum_listed _

pub returns-clause-upper_bound : goal.returns-clause-upper_bound
returns-clause-upper_bound c =
    let e : c.sum.result ≡ list_sum c.args.counts.now = search rules in
    omega (arith, sum_listed c.args.counts.now, sum_bounded c.args.counts.now (λ k. omega (arith, c.type_inv.counts k)))

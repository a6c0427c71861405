use Rattle.std.proofs.Common.{rules}
use Rattle.paper.specs.Numbers.{out_of_range}
use Rattle.headers.proofs.out_of_range.Goals as goal

pub returns : goal.returns
unfolding out_of_range
returns c = search rules

use Rattle.std.proofs.Common.{rules}
use Rattle.paper.specs.Numbers.{segment_right}
use Rattle.headers.proofs.segment_right.Goals as goal

pub returns-then-base-start : goal.returns-then-base-start
unfolding segment_right
returns-then-base-start c = search rules

pub returns-else-base-start : goal.returns-else-base-start
unfolding segment_right
returns-else-base-start c = search rules

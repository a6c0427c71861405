-- What is below a part is a sum of as many counts.
use Rattle.std.proofs.Common.{◌*◌, ◌≤◌, length}
use Rattle.paper.specs.Counts.{most_count}
use Rattle.reporting.proofs.bars.put_parts.Given as goal

abbrev pub invariant-loop-heading : goal.invariant-loop-heading
invariant-loop-heading g l =
    (goal.iterator-loop-heading g).can_next l.heading-iterator
    × (goal.iterator-loop-heading g).is_finite l.heading-iterator
    × (l.below ≤ most_count * length l.yielded)

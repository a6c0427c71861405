-- The segments before k are written, and where the next program starts is known.
use mathlib.Core.Path.{◌≡◌}
use Rattle.paper.specs.Plans.{program_start, fresh_segment}
use Rattle.fresh_parts.proofs.Repeating.{FirstRows}
use Rattle.fresh_parts.proofs.put_programs.Given as goal

abbrev pub invariant-loop-k : goal.invariant-loop-k
invariant-loop-k l = FirstRows (fresh_segment l.plan) l.initial.out l.initial.next.0 l.k l.next.0 l.out × (l.from ≡ program_start l.plan l.k)

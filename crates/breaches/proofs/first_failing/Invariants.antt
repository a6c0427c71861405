-- The tasks, queues or clock before k do not break the rule.
use mathlib.Core.Path.{◌≡◌}
use mathlib.Core.Bool.{true}
use Rattle.paper.specs.Tests.{every}
use Rattle.single_rules.specs.Each.{holds}
use Rattle.breaches.proofs.first_failing.Given as goal

abbrev pub invariant-loop-k : goal.invariant-loop-k
invariant-loop-k l = every l.k (holds l.s l.im l.rule) ≡ true

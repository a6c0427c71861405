-- What was found and what is left to find are all.
use mathlib.Core.Path.{◌≡◌}
use mathlib.Core.List.{List}
use Prim.Native.Nat.{ℕ, ◌-◌, ◌<◌}
use Rattle.paper.specs.Queues.{words_from, held}
use Rattle.paper.specs.Tests.{all_below}
use Rattle.paper.specs.declared.Shape.{Shape}
use Rattle.paper.specs.declared.Queue.{Queue}
use Rattle.queue_rules.proofs.Counting.{FoundSoFar, Small}
use Rattle.queue_rules.proofs.count_ready.Given as goal

-- what was found and what is left to find are all, and so far there was none but tasks
pub record Inv (s : Shape) (im found : List ℕ) (at left : ℕ) : Type 0 where
  pub counted : FoundSoFar found (words_from s im Queue.Ready at left) (held s im Queue.Ready)
  pub rest : all_below s.n (words_from s im Queue.Ready at left) ≡ all_below s.n (held s im Queue.Ready)
  pub small : Small found left
  pub inside : at < s.n

abbrev pub invariant-loop : goal.invariant-loop
invariant-loop l = Inv l.s l.im l.found l.slot (l.count - l.counter)

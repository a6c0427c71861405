-- There are N tasks, and a queue for each of N, N and N x N beside the ready queue.
use mathlib.Core.Path.{sym, ap}
use native.Mathlib.Omega.{arith}
use Rattle.single_rules.specs.Each.{subjects}
use Rattle.breaches.proofs.Told.{few_pairs}
use Rattle.breaches.proofs.subjects.Goals as goal

pub overflow_mul-result : goal.overflow_mul-result
overflow_mul-result c = omega (arith, few_pairs _ c.requires)

pub overflow_add-result-in-Queue-2 : goal.overflow_add-result-in-Queue-2
overflow_add-result-in-Queue-2 c = omega (arith, few_pairs _ c.requires)

pub returns-in-Queue : goal.returns-in-Queue
returns-in-Queue c = ap (subjects c.args.s) (sym c.in-Queue.is)

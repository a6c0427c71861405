-- The row of a task is added up; a task that has none has no ticks.
use native.Mathlib.Omega.{arith}
use Rattle.shares.proofs.Sums.{row_ticks, rowless_ticks, among_all}
use Rattle.shares.proofs.task_ticks.Goals as goal

pub returns-then-i-lt-MOST_TASKS : goal.returns-then-i-lt-MOST_TASKS
returns-then-i-lt-MOST_TASKS c =
    let e = row_ticks c.sum_of.result c.args.task c.args.counts.now c.if-i-lt-MOST_TASKS.true c.sum_of.ensures.value in
    record { value = e; upper_bound = among_all c.sum_of.result c.args.task c.args.counts.now e }

pub returns : goal.returns
returns c = record { value = rowless_ticks c.args.task c.args.counts.now c.if-i-lt-MOST_TASKS.false; upper_bound = omega arith }

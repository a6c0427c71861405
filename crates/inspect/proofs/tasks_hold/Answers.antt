-- The rules of the tasks before k hold.
use mathlib.Core.Path.{sym, ◌∙◌}
use native.Mathlib.Omega.{arith}
use Rattle.laws.specs.Every.{every_none, every_more, every_done}
use Rattle.laws.specs.Sound.{sized_few}
use Rattle.inspect.proofs.Tested.{each_buffers, each_characters, tasks_fail}
use Rattle.inspect.proofs.tasks_hold.Goals as goal

pub loop-k-init : goal.loop-k-init
loop-k-init c = every_none _

pub overflow_cast-k : goal.overflow_cast-k
overflow_cast-k c = omega (arith, c.loop-k-test.true, sized_few _ _ c.requires.sized)

pub task_holds-requires : goal.task_holds-requires
task_holds-requires c = record { sized = c.requires.sized; i_lt_n = c.loop-k-test.true; i_value = each_buffers _ _ _ c.loop-k-test.true c.requires.im_value; i_value_2 = each_characters _ _ _ c.loop-k-test.true c.requires.im_value_2; all_found = c.requires.all_found }

pub returns-then-not-task_holds : goal.returns-then-not-task_holds
returns-then-not-task_holds c = search tasks_fail

pub loop-k-preserved : goal.loop-k-preserved
loop-k-preserved c = every_more _ _ c.loop-k.invariant (sym c.task_holds.ensures ∙ c.if-not-task_holds.false)

pub returns : goal.returns
returns c = sym (every_done _ _ _ c.loop-k.invariant c.loop-k-test.false (omega arith))

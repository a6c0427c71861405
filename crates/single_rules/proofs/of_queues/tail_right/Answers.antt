-- Head and length, taken round, are compared with the tail.
use Rattle.std.proofs.Common.{rules}
use native.Mathlib.Omega.{arith}
use Rattle.single_rules.proofs.Tested.{some_room}
use Rattle.single_rules.specs.Each.{round}
use Rattle.single_rules.proofs.of_queues.tail_right.Goals as goal

pub nonzero_rem-result : goal.nonzero_rem-result
nonzero_rem-result c = omega (arith, some_room _ _ c.args.q _ c.capacity_of.ensures c.requires.sized)

pub returns : goal.returns
unfolding round
returns c = search rules

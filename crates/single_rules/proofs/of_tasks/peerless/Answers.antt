-- Tested as in the definition.
use Rattle.std.proofs.Common.{rules}
use Rattle.single_rules.specs.Each.{no_peer}
use Rattle.single_rules.proofs.of_tasks.peerless.Goals as goal

pub returns : goal.returns
unfolding no_peer
returns c = search rules

-- The ranges and that error and pending are not both set are tested as in the definition.
use Rattle.std.proofs.Common.{rules}
use Rattle.paper.specs.Tests.{flags_hold}
use Rattle.task_rules.proofs.flags_hold.Goals as goal

pub returns : goal.returns
unfolding flags_hold
returns c = search rules

-- A port is there below N.
use Rattle.std.proofs.Common.{rules}
use Rattle.views.specs.Looks.{port_seen}
use Rattle.views.proofs.see_port.Goals as goal

pub returns-then-from-s : goal.returns-then-from-s
unfolding port_seen
returns-then-from-s c = search rules

pub returns : goal.returns
unfolding port_seen
returns c = search rules

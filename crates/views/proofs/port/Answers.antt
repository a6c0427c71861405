-- Where the check passes the image, what is seen of it is told; else its refusal.
use Rattle.std.proofs.Common.{rules}
use Rattle.views.specs.Looks.{port_view}
use Rattle.views.proofs.Looked.{looked_sound, port_looked}
use Rattle.views.proofs.port.Goals as goal

pub returns-in_err-s : goal.returns-in_err-s
unfolding port_view
returns-in_err-s c = search rules

pub see_port-requires : goal.see_port-requires
see_port-requires c = looked_sound _ _ c.in_ok-s.ensures

pub returns : goal.returns
returns c = port_looked _ _ c.in_ok-s.ensures _ _ c.see_port.ensures

-- Where the check passes the image, what is seen of it is told; else its refusal.
use Rattle.std.proofs.Common.{rules}
use Rattle.views.specs.Looks.{register_view}
use Rattle.views.proofs.Looked.{looked_sound, register_looked}
use Rattle.views.proofs.register.Goals as goal

pub returns-in_err-s : goal.returns-in_err-s
unfolding register_view
returns-in_err-s c = search rules

pub see_register-requires : goal.see_register-requires
see_register-requires c = looked_sound _ _ c.in_ok-s.ensures

pub returns : goal.returns
returns c = register_looked _ _ c.in_ok-s.ensures _ _ _ c.see_register.ensures

-- Where the check passes the image, what is seen of it is told; else its refusal.
use Rattle.std.proofs.Common.{rules}
use Rattle.views.specs.Looks.{length_view}
use Rattle.views.proofs.Looked.{looked_sound, length_looked}
use Rattle.views.proofs.queue_length.Goals as goal

pub returns-in_err-s : goal.returns-in_err-s
unfolding length_view
returns-in_err-s c = search rules

pub see_length-requires : goal.see_length-requires
see_length-requires c = looked_sound _ _ c.in_ok-s.ensures

pub returns : goal.returns
returns c = length_looked _ _ c.in_ok-s.ensures _ _ _ _ c.see_length.ensures

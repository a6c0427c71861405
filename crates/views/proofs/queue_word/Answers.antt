-- Where the check passes the image, what is seen of it is told; else its refusal.
use Rattle.std.proofs.Common.{rules}
use Rattle.views.specs.Looks.{word_view}
use Rattle.views.proofs.Looked.{looked_sound, word_looked}
use Rattle.views.proofs.queue_word.Goals as goal

pub returns-in_err-s : goal.returns-in_err-s
unfolding word_view
returns-in_err-s c = search rules

pub see_word-requires : goal.see_word-requires
see_word-requires c = looked_sound _ _ c.in_ok-s.ensures

pub returns : goal.returns
returns c = word_looked _ _ c.in_ok-s.ensures _ _ _ _ _ c.see_word.ensures

-- The three changes are those of the definition, in its order.
use Rattle.services.proofs.Needs.{prints}
use borrow.Author.Rules.{rules}
use Rattle.services.proofs.print.Goals as goal

pub returns : goal.returns
returns c = record { im_after = prints _ _ _ _ _ _ _ c.take-w.ensures.value c.take-w.ensures.im_after c.put.ensures.im_after c.put-2.ensures.im_after; sound_2 = search rules }

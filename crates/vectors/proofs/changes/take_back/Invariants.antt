-- The words with the changes up to the place are those that were there.
use Rattle.std.proofs.Common.{◌≡◌, take}
use Rattle.vectors.specs.Words.{with_changes}
use Rattle.vectors.proofs.changes.take_back.Given as goal

abbrev pub invariant-loop-change : goal.invariant-loop-change
invariant-loop-change l = with_changes l.words (take l.change-index l.changes) ≡ l.fn.words

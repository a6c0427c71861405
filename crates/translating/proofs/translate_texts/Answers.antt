-- An accepted program lies in its target.
use mathlib.Core.Path.{sym}
use lib.Seq.{length-take-le}
use Rattle.translating.proofs.Files.{words_fit}
use Rattle.translating.proofs.translate_texts.Goals as goal

pub slice_bounds-words-end : goal.slice_bounds-words-end
slice_bounds-words-end c = search words_fit

pub slice_bounds-save-end : goal.slice_bounds-save-end
slice_bounds-save-end c = sym (length-take-le _ _ (search words_fit))

-- What is written, and the words of the bytes that are left, make the whole.
use mathlib.Core.Path.{◌∙◌}
use native.Mathlib.Omega.{arith}
use Rattle.files.proofs.Words.{no_words, word_room, word_more, words_done}
use Rattle.files.proofs.put_words.Goals as goal

pub loop-pair-preserved : goal.loop-pair-preserved
loop-pair-preserved c =
    let steps = c.in-Some.ensures.steps in
    let size = c.loop-pair.invariant.2 in (
      omega (arith, steps.0, size),
      tt,
      steps.0 ∙ size,
      word_more _ _ _ _ _ c.loop-pair.invariant.3 _ _ steps.1.0 (steps.1.1 ∙ size) _ c.word.ensures,
    )

pub returns : goal.returns
returns c =
    let d = words_done _ _ _ _ _ c.loop-pair.invariant.3 (omega (arith, c.in-None.ensures.steps.1.0, c.loop-pair.invariant.2)) in
    record { value = d.0; words_after = d.1 }

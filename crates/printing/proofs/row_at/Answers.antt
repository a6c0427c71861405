-- The word's own row where a word follows or none is needed, else that of a number.
use mathlib.Core.Path.{sym, ◌∙◌}
use native.Mathlib.Omega.{arith}
use Rattle.printing.proofs.Reached.{row_followed, row_lone, row_last}
use Rattle.printing.proofs.row_at.Goals as goal

pub returns-then-k-words : goal.returns-then-k-words
returns-then-k-words c =
    let row = c.row_of-row.ensures in
    record { value = row_followed _ _ _ c.requires row.value c.if-k-words.true; upper_bound = row.upper_bound }

pub returns-then-seconds-eq1 : goal.returns-then-seconds-eq1
returns-then-seconds-eq1 c =
    record { value = row_lone _ _ _ c.requires c.row_of-row.ensures.value c.if-k-words.false (sym c.seconds.ensures.value ∙ c.if-seconds-eq1.true); upper_bound = omega arith }

pub returns : goal.returns
returns c =
    let row = c.row_of-row.ensures in
    record { value = row_last _ _ _ c.requires row.value c.if-k-words.false (λ o. c.if-seconds-eq1.false (c.seconds.ensures.value ∙ o)); upper_bound = row.upper_bound }

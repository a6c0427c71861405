-- A plan with a size is fine, and any other has the refusal that its size tells.
use Rattle.std.proofs.Common.{sym}
use Rattle.std.proofs.lemmas.Result.{err_from_is_err_and}
use Rattle.plans.specs.Sizes.{told_words, told_refusal}
use Rattle.plans.proofs.verdict.Goals as goal

pub returns-in_err-size : goal.returns-in_err-size
returns-in_err-size c =
    let p = err_from_is_err_and c.from_residual.result c.from_residual.ensures.1 in
    rw (p.1, p.2) (sym (told_refusal _ _ _ c.size.ensures c.in_err-size.was))

pub returns : goal.returns
returns c = sym (told_words _ _ _ c.size.ensures c.in_ok-size.was).0

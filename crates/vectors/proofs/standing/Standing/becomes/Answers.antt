-- Items that are found equal are the same.
use Rattle.std.proofs.Common.{◌≡◌, sym, ◌∙◌, true}
use Rattle.vectors.proofs.Words.{same_lists}
use Rattle.vectors.proofs.standing.Standing.becomes.Goals as goal

pub returns : goal.returns
returns g c = λ h.
    let told : c.eq.result ≡ true = cc in
    same_lists g.T.PartialEq.eq g.met.T.Item.same _ _ (sym c.eq.ensures ∙ told)

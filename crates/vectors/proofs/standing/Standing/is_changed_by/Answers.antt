-- What the call leaves is what then stands, where the items are found equal.
use Rattle.std.proofs.Common.{rules, ◌≡◌, sym, ◌∙◌, true}
use Rattle.vectors.proofs.Words.{same_lists}
use Rattle.vectors.proofs.standing.Standing.is_changed_by.Goals as goal

pub returns-then-yes : goal.returns-then-yes
returns-then-yes g c = λ h.
    let told : c.eq.result ≡ true = cc in
    (c.call-yes.new.arg2, search rules, same_lists g.T.PartialEq.eq g.met.T.Item.same _ _ (sym c.eq.ensures ∙ told))

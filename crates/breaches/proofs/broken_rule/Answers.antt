-- The verdict tells whether there is a broken rule to look for.
use mathlib.Core.Path.{sym, ◌∙◌}
use Rattle.std.proofs.Common.{rules}
use Rattle.breaches.specs.Broken.{broken}
use Rattle.breaches.proofs.Told.{six_sized, tells_breach, tells_refused}
use Rattle.breaches.proofs.broken_rule.Goals as goal

pub returns-in_default : goal.returns-in_default
unfolding broken
returns-in_default c = let told = sym c.inspect-found.ensures.0 ∙ c.in_default.is in search rules

pub first_broken-requires : goal.first_broken-requires
first_broken-requires c =
    let told = c.inspect-found.ensures in six_sized _ _ (sym told.0 ∙ c.in-Err.is) _ c.eq.ensures c.if-eq.true _ told.1

pub returns-then-eq : goal.returns-then-eq
returns-then-eq c =
    let told = c.inspect-found.ensures in
    tells_breach _ _ (sym told.0 ∙ c.in-Err.is) _ c.eq.ensures c.if-eq.true _ told.1 _ c.first_broken.ensures

pub returns : goal.returns
returns c = tells_refused _ _ (sym c.inspect-found.ensures.0 ∙ c.in-Err.is) _ c.eq.ensures c.if-eq.false

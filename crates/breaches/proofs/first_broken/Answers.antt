-- The rules before k are kept.
use mathlib.Core.Path.{sym, ap, ◌∙◌}
use native.Mathlib.Omega.{arith}
use Rattle.laws.specs.Every.{every_none, every_more}
use Rattle.laws.specs.Sound.{sized_fit}
use Rattle.breaches.specs.Broken.{kept}
use Rattle.breaches.proofs.Told.{is_kept, at_in, breach_told, breach_none}
use Rattle.breaches.proofs.first_broken.Goals as goal

pub loop-k-init : goal.loop-k-init
loop-k-init c = every_none _

pub rule_at-rule-requires : goal.rule_at-rule-requires
rule_at-rule-requires c = c.loop-k-test.true

pub subject_at-requires : goal.subject_at-requires
subject_at-requires c =
    let z = c.requires in
    let f = c.first_failing in
    record { fit = sized_fit _ _ z; k_bound = at_in _ _ _ _ _ _ f.ensures c.in-Some.is c.kind_of.ensures }

pub returns-in-Some : goal.returns-in-Some
returns-in-Some c = breach_told _ _ _ c.loop-k.invariant c.loop-k-test.true _ _ _ _ _ c.rule_at-rule.ensures c.first_failing.ensures c.in-Some.is c.kind_of.ensures c.subject_at.ensures

pub loop-k-preserved : goal.loop-k-preserved
loop-k-preserved c =
    let e = c.rule_at-rule.ensures in
    every_more _ _ c.loop-k.invariant (ap (kept _ _) (sym e) ∙ is_kept _ _ _ (sym c.in_default.is ∙ c.first_failing.ensures))

pub returns : goal.returns
returns c = breach_none _ _ _ c.loop-k.invariant c.loop-k-test.false (omega arith)

-- The tasks, queues or clock before k do not break the rule.
use mathlib.Core.Path.{sym, ◌∙◌}
use native.Mathlib.Omega.{arith}
use Rattle.laws.specs.Every.{every_none, every_more}
use Rattle.laws.specs.Sound.{sized_fit}
use Rattle.breaches.proofs.Told.{in_end, breaks_at, breaks_nowhere}
use Rattle.breaches.proofs.first_failing.Goals as goal

pub subjects-end-requires : goal.subjects-end-requires
subjects-end-requires c = search sized_fit

pub loop-k-init : goal.loop-k-init
loop-k-init c = every_none _

pub holds-requires : goal.holds-requires
holds-requires c = record { sized = c.requires; k_bound = in_end c.args.s c.args.im.now c.args.rule _ _ c.kind_of.ensures c.subjects-end.ensures _ c.loop-k-test.true }

pub returns-then-not-holds : goal.returns-then-not-holds
returns-then-not-holds c =
    breaks_at _ _ c.args.rule _ _ c.kind_of.ensures c.subjects-end.ensures _ c.loop-k-test.true
    c.loop-k.invariant _ c.holds.ensures c.if-not-holds.true

pub loop-k-preserved : goal.loop-k-preserved
loop-k-preserved c =
    every_more _ _ c.loop-k.invariant (sym c.holds.ensures ∙ c.if-not-holds.false)

pub returns : goal.returns
returns c = breaks_nowhere _ _ c.args.rule _ _ c.kind_of.ensures c.subjects-end.ensures _ c.loop-k-test.false (omega arith) c.loop-k.invariant

-- One change more is taken back at each turn.
use Rattle.std.proofs.Common.{refl, rules}
use Rattle.vectors.specs.Words.{with_changes}
use Rattle.vectors.proofs.Words.{taken_back}
use Rattle.vectors.proofs.changes.take_back.Goals as goal

pub loop-change-init : goal.loop-change-init
unfolding with_changes
loop-change-init c = refl

pub loop-change-preserved : goal.loop-change-preserved
loop-change-preserved c = taken_back c.loop-change.words _ c.args.changes.now c.loop-change.change-index _ _ c.loop-change.invariant c.loop-change-test.true (search rules)

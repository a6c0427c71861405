-- The segments of the tasks before k are right, and the next is to start at end.
use mathlib.Core.Path.{sym, ◌∙◌}
use native.Mathlib.Omega.{arith}
use Rattle.laws.specs.Every.{every_none, every_more}
use Rattle.laws.specs.Sound.{sized_fit, sized_few}
use Rattle.headers.proofs.Tested.{first_small, next_start, segment_fails, segments_end}
use Rattle.headers.proofs.segments_right.Goals as goal

pub start_of-end-requires : goal.start_of-end-requires
start_of-end-requires c = search sized_fit

pub loop-k-init : goal.loop-k-init
loop-k-init c =
    let first = c.start_of-end.ensures in
    record { passed = every_none _; next = first; small = first_small _ _ c.requires _ first }

pub overflow_cast-i : goal.overflow_cast-i
overflow_cast-i c = omega (arith, c.loop-k-test.true, sized_few _ _ c.requires)

pub returns-then-not-segment_right : goal.returns-then-not-segment_right
returns-then-not-segment_right c =
    let inside = c.loop-k-test.true in
    segment_fails _ _ c.requires _ _ (omega (arith, inside)) c.segment_right.ensures c.if-not-segment_right.true

pub overflow_add-end : goal.overflow_add-end
overflow_add-end c = omega (arith, c.loop-k.invariant, sized_few _ _ c.requires)

pub loop-k-preserved : goal.loop-k-preserved
loop-k-preserved c =
    let next = next_start _ _ c.requires _ _ _ _ c.loop-k.invariant.next c.entry_word.ensures c.from.ensures in
    record { passed = every_more _ _ c.loop-k.invariant.passed (sym c.segment_right.ensures ∙ c.if-not-segment_right.false); next = next; small = omega arith }

pub returns : goal.returns
returns c = segments_end _ _ c.requires _ _ c.loop-k.invariant.passed (omega (arith, c.loop-k-test.false)) (omega arith) c.loop-k.invariant.next

-- What was found and what is left to find are all.
use mathlib.Core.Path.{refl, sym}
use mathlib.Core.Bool.{true≢false}
use native.Mathlib.Omega.{arith}
use Rattle.paper.specs.declared.Queue.{Queue}
use Rattle.laws.specs.Cells.{in_lead}
use Rattle.laws.specs.Sound.{sized_few}
use Rattle.queue_rules.proofs.Held.{head_inside, next_step, next_inside, below_fails, below_more, below_done}
use Rattle.queue_rules.proofs.Counting.{small_at, start_rest, start_found, start_small, next_found, next_small, found_all}
use Rattle.queue_rules.proofs.count_ready.Goals as goal

pub queue_word-requires : goal.queue_word-requires
queue_word-requires c = search in_lead

pub queue_word-count-requires : goal.queue_word-count-requires
queue_word-count-requires c = search in_lead

pub loop-init : goal.loop-init
loop-init c = record { counted = start_found _ _ c.requires.sized c.requires.im_value _ _ _ _ c.from-slot.ensures c.queue_word.ensures (omega (arith, c.queue_word-count.ensures)) c.requires.none_found; rest = start_rest _ _ c.requires.sized c.requires.im_value c.args.found.now _ _ _ c.from-slot.ensures c.queue_word.ensures (omega (arith, c.queue_word-count.ensures)); small = start_small _ _ c.requires.sized c.requires.im_value _ _ _ _ c.from-slot.ensures c.queue_word.ensures (omega (arith, c.queue_word-count.ensures)) c.requires.none_found; inside = head_inside _ _ Queue.Ready c.requires.im_value _ _ c.from-slot.ensures c.queue_word.ensures }

pub overflow_add-slot : goal.overflow_add-slot
overflow_add-slot c = omega (arith, c.loop.invariant.inside, sized_few _ _ c.requires.sized)

pub queue_word-requires-in-loop : goal.queue_word-requires-in-loop
queue_word-requires-in-loop c = record { sized = c.requires.sized; has = tt; k_bound = let i = c.loop.invariant.inside in omega arith }

pub returns-then-s-task : goal.returns-then-s-task
returns-then-s-task c = record { value = below_fails c.args.s c.args.im.now Queue.Ready c.args.s.n c.loop.slot _ _ c.loop.invariant.rest _ _ _ (omega (arith, c.loop-test.true)) refl c.queue_word-in-loop.ensures c.from-task.ensures c.if-s-task.true; all_found = λ e. absurd (true≢false (sym e)) }

pub bounds-found-task : goal.bounds-found-task
bounds-found-task c = omega (arith, c.if-s-task.false, sized_few _ _ c.requires.sized)

pub overflow_add-found : goal.overflow_add-found
overflow_add-found c = omega (arith, c.loop-test.true, small_at _ _ c.from-task.result c.loop.invariant.small (let f = sized_few _ _ c.requires.sized in let l = c.if-s-task.false in omega arith))

pub bounds-found-task-in-loop : goal.bounds-found-task-in-loop
bounds-found-task-in-loop c = omega (arith, c.if-s-task.false, sized_few _ _ c.requires.sized)

pub overflow_add-slot-in-loop : goal.overflow_add-slot-in-loop
overflow_add-slot-in-loop c = omega (arith, c.loop.invariant.inside, sized_few _ _ c.requires.sized)

pub wrapped-slot-requires : goal.wrapped-slot-requires
wrapped-slot-requires c = let i = c.loop.invariant.inside in omega arith

pub loop-preserved : goal.loop-preserved
loop-preserved c = record { counted = next_found _ _ c.requires.sized c.requires.im_value _ _ (omega (arith, c.loop-test.true)) c.loop.invariant.inside _ _ _ _ _ c.queue_word-in-loop.ensures c.from-task.ensures c.if-s-task.false c.loop.invariant.small c.wrapped-slot.ensures (omega arith) c.loop.invariant.counted; rest = below_more c.args.s c.args.im.now Queue.Ready c.args.s.n c.loop.slot _ _ c.loop.invariant.rest _ _ _ _ _ _ (omega (arith, c.loop-test.true)) refl c.queue_word-in-loop.ensures c.from-task.ensures c.if-s-task.false refl (next_step _ _ Queue.Ready c.requires.im_value _ c.loop.invariant.inside _ _ refl c.wrapped-slot.ensures) (omega arith); small = next_small _ _ c.requires.sized c.requires.im_value _ _ (omega (arith, c.loop-test.true)) c.loop.invariant.inside _ _ _ c.if-s-task.false (omega arith) c.loop.invariant.small; inside = next_inside _ _ Queue.Ready c.requires.im_value _ c.loop.invariant.inside _ _ refl c.wrapped-slot.ensures }

pub returns : goal.returns
returns c = record { value = below_done c.args.s c.args.im.now Queue.Ready c.args.s.n c.loop.slot _ _ c.loop.invariant.rest (omega (arith, c.loop-test.false)); all_found = λ _. found_all _ _ _ _ _ (omega (arith, c.loop-test.false)) c.loop.invariant.counted }

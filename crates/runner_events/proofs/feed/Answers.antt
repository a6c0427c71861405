-- The lines that are written, and what is left to print, make the whole; the image is as long as before.
use mathlib.Core.Path.{refl, ◌∙◌}
use native.Mathlib.Omega.{arith}
use borrow.Author.Rules.{rules}
use Rattle.runner_events.proofs.Taking.{going_start, line_room, number_room, taken_more, events_end, short_left, event_accepted, event_refused}
use Rattle.runner_events.proofs.feed.Goals as goal

pub loop-event-init : goal.loop-event-init
loop-event-init c = (search rules, tt, search rules, refl, going_start _ _ _ _ _ _ (search rules) c.requires.lawful)

pub step_by-reply-requires : goal.step_by-reply-requires
step_by-reply-requires c = record { lawful = c.loop-event.invariant.4.good; order_table = c.requires.order_table; event_len = c.in-Some.ensures.steps.1.1 ∙ c.loop-event.invariant.2 }

pub overflow_add-n : goal.overflow_add-n
overflow_add-n c = record { fits = number_room _ _ _ _ _ _ _ _ _ _ c.loop-event.invariant.4 c.requires.bytes_bound }

pub put_line-text-requires : goal.put_line-text-requires
put_line-text-requires c = line_room _ _ _ _ _ _ _ _ _ _ c.loop-event.invariant.4 c.requires.bytes_in_bounds

pub overflow_add-taken : goal.overflow_add-taken
overflow_add-taken c =
    let steps = c.in-Some.ensures.steps in
    omega (arith, c.requires.bytes_bound, taken_more _ _ _ _ _ _ _ _ _ _ c.loop-event.invariant.4 _ _ steps.1.0 (steps.1.1 ∙ c.loop-event.invariant.2))

pub loop-event-preserved : goal.loop-event-preserved
loop-event-preserved c =
    let steps = c.in-Some.ensures.steps in
    let size = c.loop-event.invariant.2 in
    let done = c.step_by-reply.ensures in
    let line = c.put_line-text.ensures in (
      omega (arith, steps.0, size),
      tt,
      steps.0 ∙ size,
      c.step_by-reply.auto.im ∙ c.loop-event.invariant.3,
      event_accepted _ _ _ _ _ _ _ _ _ _ c.loop-event.invariant.4 _ _ steps.1.0 (steps.1.1 ∙ size) _ refl _ _ _ _ done.im_after done.lawful_2 line.value
          line.upper_bound line.out_after _ c.in-Ok.is,
    )

pub returns-in-Err : goal.returns-in-Err
returns-in-Err c =
    let steps = c.in-Some.ensures.steps in
    let size = c.loop-event.invariant.2 in
    let done = c.step_by-reply.ensures in
    let line = c.put_line-text.ensures in
    event_refused _ _ _ _ _ _ _ _ _ _ c.loop-event.invariant.4 _ _ steps.1.0 (steps.1.1 ∙ size) _ refl _ _ _ _ done.im_after done.lawful_2 line.value
    line.upper_bound line.out_after _ c.in-Err.is c.requires.bytes_in_bounds

pub returns-then-bytes-eq0 : goal.returns-then-bytes-eq0
returns-then-bytes-eq0 c =
    let last = c.in-None.ensures.steps.1.0 in
    events_end _ _ _ _ _ _ _ _ _ _ c.loop-event.invariant.4 (omega (arith, last, c.loop-event.invariant.2)) c.if-bytes-eq0.true c.requires.bytes_in_bounds

pub feed_short-requires : goal.feed_short-requires
feed_short-requires c = record { taken_bound = number_room _ _ _ _ _ _ _ _ _ _ c.loop-event.invariant.4 c.requires.bytes_bound; most_line_in_bounds = line_room _ _ _ _ _ _ _ _ _ _ c.loop-event.invariant.4 c.requires.bytes_in_bounds }

pub returns : goal.returns
returns c =
    let last = c.in-None.ensures.steps.1.0 in
    short_left _ _ _ _ _ _ _ _ _ _ c.loop-event.invariant.4 _ _ _ _ (omega (arith, last, c.loop-event.invariant.2)) c.if-bytes-eq0.false c.requires.bytes_in_bounds c.feed_short.ensures

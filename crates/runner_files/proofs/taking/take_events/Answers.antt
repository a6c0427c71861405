-- The events that are taken lie in the buffer, and their lines in theirs.
use mathlib.Core.Path.{sym}
use native.Mathlib.Omega.{arith}
use lib.Seq.{length-take-le}
use Rattle.runner_files.proofs.Turning.{served, taken_inside, taken_few}
use Rattle.runner_files.proofs.taking.take_events.Goals as goal

pub feed_buffer-fed-requires : goal.feed_buffer-fed-requires
feed_buffer-fed-requires c =
    let p = c.requires in
    record { lawful = p.lawful; order_table = p.order_table; buffered = served _ _ _ _ p.buffers p.end_in_bounds }

pub overflow_mul-from : goal.overflow_mul-from
overflow_mul-from c =
    let p = c.requires in
    let f = c.feed_buffer-fed.ensures.feeds in
    omega (arith, taken_few _ _ _ _ p.buffers p.end_in_bounds _ _ _ _ _ _ _ f)

pub slice_bounds-write_all-end-2 : goal.slice_bounds-write_all-end-2
slice_bounds-write_all-end-2 c =
    let f = c.feed_buffer-fed.ensures.feeds in
    sym (length-take-le _ _ (omega (arith, f.fits)))

pub overflow_add-n : goal.overflow_add-n
overflow_add-n c =
    let p = c.requires in
    let f = c.feed_buffer-fed.ensures.feeds in
    omega (arith, p.buffers.numbers, p.buffers.bytes, taken_few _ _ _ _ p.buffers p.end_in_bounds _ _ _ _ _ _ _ f)

pub slice_bounds-refuse_event-count : goal.slice_bounds-refuse_event-count
slice_bounds-refuse_event-count c =
    let p = c.requires in
    let f = c.feed_buffer-fed.ensures.feeds in
    omega (arith, taken_inside _ _ _ _ p.buffers p.end_in_bounds _ _ _ _ _ _ _ f)

pub slice_bounds-refuse_event-start : goal.slice_bounds-refuse_event-start
slice_bounds-refuse_event-start c =
    let p = c.requires in
    let f = c.feed_buffer-fed.ensures.feeds in
    omega (arith, taken_inside _ _ _ _ p.buffers p.end_in_bounds _ _ _ _ _ _ _ f)

pub slice_bounds-refuse_event-end : goal.slice_bounds-refuse_event-end
slice_bounds-refuse_event-end c =
    let p = c.requires in
    let f = c.feed_buffer-fed.ensures.feeds in
    omega (arith, p.end_in_bounds, taken_inside _ _ _ _ p.buffers p.end_in_bounds _ _ _ _ _ _ _ f)

pub returns-in-Ok : goal.returns-in-Ok
returns-in-Ok c =
    let p = c.requires in
    let f = c.feed_buffer-fed.ensures.feeds in
    record { tooks = taken_few _ _ _ _ p.buffers p.end_in_bounds _ _ _ _ _ _ _ f; lawful_2 = f.good }

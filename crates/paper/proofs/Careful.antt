-- The order of checks, and errors that a careful programmer still makes: what the paper says there, on small plans, by computation.
-- Every expected word was worked out by hand from the paper. Assumes nothing.
use mathlib.Core.Path.{◌≡◌, refl}
use mathlib.Core.List.{List, [], ◌∷◌}
use Prim.Native.Nat.{ℕ}
use lib.ListN.{get_or}
use Rattle.paper.specs.Image.{total, shape_of, place, at, put}
use Rattle.paper.specs.Queues.{step, appended, first, taken, held, free, empty, full}
use Rattle.paper.specs.Waking.{dispatched, with_status, readied, woken, left, with_woken}
use Rattle.paper.specs.Services.{service_faulted, waiting, delivered, printing, printing_if_idle, served, waits_for, finished, service}
use Rattle.paper.specs.Machines.{machine, put_back}
use Rattle.paper.specs.Orders.{with_register, with_flags, with_word, operand, found, effect_of, checked, decided, changed, faulted}
use Rattle.paper.specs.Events.{event_of, ordered, stopped, turned, spent, turn_of, tick, input, port_next, output_done, happening}
use Rattle.paper.specs.Plans.{plan_shape, fresh}
use Rattle.paper.specs.Tests.{every, queued, cleared, queue_holds, buffers_hold, characters, readied_once, readied_tasks, clock_holds, port_holds, flags_hold, status_holds, task_holds, rules_hold}
use Rattle.paper.specs.Numbers.{out_of_range, not_packed, segment_right, wrong_segments, check}
use Rattle.paper.specs.Calls.{event, run}
use Rattle.paper.proofs.Worked.{shows, ticks, event_after, last_tick, last_tick_of_two, nobody_plan}

-- one task of one word, which is w
abbrev word_plan : ℕ → List ℕ
word_plan w = 1 ∷ 1 ∷ 1 ∷ 1 ∷ 1 ∷ 1 ∷ 1 ∷ w ∷ []

-- output twice, so that the port is busy and the buffer full; load R3 with 256; output
abbrev output_plan : List ℕ
output_plan = 1 ∷ 9 ∷ 1 ∷ 1 ∷ 1 ∷ 5 ∷ 5 ∷ 4672 ∷ 4672 ∷ 304 ∷ 256 ∷ 4672 ∷ []

-- two tasks: task 0 receives from itself, task 1 sends to task 0
abbrev other_sender_plan : List ℕ
other_sender_plan = 2 ∷ 2 ∷ 1 ∷ 1 ∷ 1 ∷ 1 ∷ 1 ∷ 1 ∷ 1 ∷ 4640 ∷ 4624 ∷ []

-- two tasks: task 0 receives from task 1, task 1 sends to task 0
abbrev sender_plan : List ℕ
sender_plan = 2 ∷ 3 ∷ 1 ∷ 1 ∷ 1 ∷ 3 ∷ 3 ∷ 1 ∷ 1 ∷ 288 ∷ 1 ∷ 4640 ∷ 4624 ∷ []

pub record Careful : Type 0 where
  -- load with an unused field of 1, its second word outside the segment: error 2
  pub field_before_second_word : last_tick (word_plan 257) 1 ≡ shows (7 ∷ 0 ∷ []) (0 ∷ 1 ∷ 0 ∷ 0 ∷ 0 ∷ 0 ∷ 0 ∷ 0 ∷ 8 ∷ [])
  -- service 0 with an unused field of 1: error 2
  pub field_before_service : last_tick (word_plan 4609) 1 ≡ shows (7 ∷ 0 ∷ []) (0 ∷ 1 ∷ 0 ∷ 0 ∷ 0 ∷ 0 ∷ 0 ∷ 0 ∷ 8 ∷ [])
  -- send to and receive from no task: error 5, and nothing is pending
  pub send_to_nobody : last_tick (nobody_plan 4624) 3 ≡ shows (5 ∷ 0 ∷ []) (3 ∷ 3 ∷ 9 ∷ 0 ∷ 0 ∷ 0 ∷ 0 ∷ 0 ∷ 20 ∷ [])
  pub receive_from_nobody : last_tick (nobody_plan 4640) 3 ≡ shows (5 ∷ 0 ∷ []) (3 ∷ 3 ∷ 9 ∷ 0 ∷ 0 ∷ 0 ∷ 0 ∷ 0 ∷ 20 ∷ [])
  -- such a service has used the clock too: 3, and after two orders and the service nothing is left
  pub fault_uses_the_clock : get_or (event_after (nobody_plan 4624) (ticks 3) 2).image 17 1 ≡ 0
  -- output of 256 on a full buffer: error 6, and nothing is pending
  pub output_before_buffer : last_tick output_plan 7 ≡ shows (5 ∷ 0 ∷ []) (5 ∷ 5 ∷ 0 ∷ 256 ∷ 0 ∷ 0 ∷ 0 ∷ 0 ∷ 24 ∷ [])
  -- a receiver that waits for another sender goes on waiting
  pub other_sender : last_tick_of_two other_sender_plan 4 ≡ shows (3 ∷ 1 ∷ []) (1 ∷ 0 ∷ 1 ∷ 2 ∷ 0 ∷ 1 ∷ 2 ∷ 0 ∷ 0 ∷ 0 ∷ [])
  -- a woken task is the last of the ready queue
  pub woken_last : last_tick_of_two sender_plan 5 ≡ shows (3 ∷ 1 ∷ []) (1 ∷ 1 ∷ 2 ∷ 2 ∷ 0 ∷ 1 ∷ 0 ∷ 0 ∷ 0 ∷ 0 ∷ [])

pub careful : Careful
unfolding total shape_of place at put step appended first taken held free empty full dispatched with_status readied woken left with_woken service_faulted waiting delivered printing printing_if_idle served waits_for finished service machine put_back with_register with_flags with_word operand found effect_of checked decided changed faulted ordered event_of stopped turned spent turn_of tick input port_next output_done happening plan_shape fresh every queued cleared queue_holds buffers_hold characters readied_once readied_tasks clock_holds port_holds flags_hold status_holds task_holds rules_hold out_of_range not_packed segment_right wrong_segments check event run
careful =
    record {
      field_before_second_word = refl;
      field_before_service = refl;
      send_to_nobody = refl;
      receive_from_nobody = refl;
      fault_uses_the_clock = refl;
      output_before_buffer = refl;
      other_sender = refl;
      woken_last = refl;
    }

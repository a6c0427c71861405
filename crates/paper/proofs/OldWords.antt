-- Request 6 on small plans, by computation: what is taken leaves 0 in its slot, and an image with a word in a free slot is refused.
-- Every expected word was worked out by hand from the documents. Assumes nothing.
use mathlib.Core.Path.{◌≡◌, refl}
use mathlib.Core.List.{List, [], ◌∷◌, ◌++◌}
use Prim.Native.Nat.{ℕ, ◌+◌}
use lib.ListN.{take, drop}
use Rattle.paper.specs.Image.{total, shape_of, place, at, put}
use Rattle.paper.specs.Queues.{step, appended, first, taken, held, free, empty, full}
use Rattle.paper.specs.Waking.{dispatched, with_status, readied, woken, left, with_woken}
use Rattle.paper.specs.Services.{service_faulted, waiting, delivered, printing, printing_if_idle, served, waits_for, finished, service}
use Rattle.paper.specs.Machines.{machine, put_back}
use Rattle.paper.specs.Orders.{with_register, with_flags, with_word, operand, found, effect_of, checked, decided, changed, faulted}
use Rattle.paper.specs.Events.{event_of, ordered, stopped, turned, spent, turn_of, tick, input, port_next, output_done, happening}
use Rattle.paper.specs.Plans.{plan_shape, fresh}
use Rattle.paper.specs.Tests.{every, queued, cleared, queue_holds, buffers_hold, characters, readied_once, readied_tasks, clock_holds, port_holds, flags_hold, status_holds, task_holds, rules_hold}
use Rattle.paper.specs.Numbers.{verdict_number, out_of_range, not_packed, segment_right, wrong_segments, check}
use Rattle.paper.specs.Calls.{event, run}
use Rattle.paper.proofs.Worked.{shows, ticks, event_after, last_tick, last_tick_of_two}

-- two tasks of slice n that jump on the spot
abbrev two_plan : ℕ → List ℕ
two_plan n = 2 ∷ n ∷ 1 ∷ 1 ∷ 1 ∷ 2 ∷ 2 ∷ 2 ∷ 2 ∷ 3584 ∷ 0 ∷ 3584 ∷ 0 ∷ []

-- task 0 jumps on the spot, task 1 has the order w
abbrev other_plan : ℕ → ℕ → List ℕ
other_plan n w = 2 ∷ n ∷ 1 ∷ 1 ∷ 1 ∷ 2 ∷ 2 ∷ 1 ∷ 1 ∷ 3584 ∷ 0 ∷ w ∷ []

-- task 0 receives from itself and waits, task 1 jumps on the spot
abbrev alone_plan : List ℕ
alone_plan = 2 ∷ 2 ∷ 1 ∷ 1 ∷ 1 ∷ 1 ∷ 1 ∷ 2 ∷ 2 ∷ 4640 ∷ 3584 ∷ 0 ∷ []

-- load R3 with 7; send it to task 0, itself; receive it
abbrev message_plan : List ℕ
message_plan = 1 ∷ 9 ∷ 1 ∷ 1 ∷ 1 ∷ 4 ∷ 4 ∷ 304 ∷ 7 ∷ 4624 ∷ 4640 ∷ []

-- one task, with an input buffer of two slots
abbrev typed_plan : List ℕ
typed_plan = 1 ∷ 1 ∷ 2 ∷ 1 ∷ 1 ∷ 1 ∷ 0 ∷ []

-- an image with the word w at place k
abbrev with_word_at : List ℕ → ℕ → ℕ → List ℕ
with_word_at im k w = take k im ++ (w ∷ drop (k + 1) im)

abbrev number_of : List ℕ → ℕ
number_of im = verdict_number (check im)

-- task 1 waits, and has left slot 1 of the ready queue, word 41
abbrev waited : List ℕ
waited = (event_after (other_plan 2 4640) (ticks 5) 4).image

-- the input buffer holds 65 in slot 0 and nothing in slot 1, word 39
abbrev typed : List ℕ
typed = (event_after typed_plan (1 ∷ 0 ∷ 65 ∷ []) 0).image

pub record OldWords : Type 0 where
  -- a passed turn with all tasks ready: the slot is cleared and then holds the task again
  pub turn_of_all : last_tick_of_two (two_plan 1) 4 ≡ shows (2 ∷ 1 ∷ []) (0 ∷ 0 ∷ 2 ∷ 2 ∷ 0 ∷ 1 ∷ 0 ∷ 0 ∷ 0 ∷ 0 ∷ [])
  -- and with a free slot: the task goes from slot 1 to slot 0
  pub turn_of_one : last_tick_of_two alone_plan 5 ≡ shows (2 ∷ 1 ∷ []) (0 ∷ 1 ∷ 1 ∷ 2 ∷ 1 ∷ 0 ∷ 2 ∷ 0 ∷ 0 ∷ 0 ∷ [])
  -- task 1 leaves by a wait, and by an error
  pub left_by_wait : last_tick_of_two (other_plan 2 4640) 5 ≡ shows (4 ∷ 1 ∷ []) (0 ∷ 1 ∷ 1 ∷ 2 ∷ 0 ∷ 0 ∷ 0 ∷ 0 ∷ 2 ∷ 0 ∷ [])
  pub left_by_error : last_tick_of_two (other_plan 1 4608) 4 ≡ shows (1 ∷ 1 ∷ []) (0 ∷ 1 ∷ 1 ∷ 2 ∷ 0 ∷ 0 ∷ 0 ∷ 0 ∷ 5 ∷ 0 ∷ [])
  -- a message that is received, in R3 and gone from its buffer
  pub received : last_tick message_plan 5 ≡ shows (3 ∷ 0 ∷ []) (4 ∷ 4 ∷ 0 ∷ 7 ∷ 0 ∷ 0 ∷ 0 ∷ 0 ∷ 0 ∷ [])
  pub gone : take 5 (drop 44 (event_after message_plan (ticks 5) 4).image) ≡ 0 ∷ 0 ∷ 0 ∷ 1 ∷ 0 ∷ []
  -- an old word in the ready queue, and in a buffer that holds the same word
  pub left_taken : number_of waited ≡ 0
  pub old_task : number_of (with_word_at waited 41 1) ≡ 6
  pub typed_taken : number_of typed ≡ 0
  pub old_character : number_of (with_word_at typed 39 65) ≡ 6

pub old_words : OldWords
unfolding total shape_of place at put step appended first taken held free empty full dispatched with_status readied woken left with_woken service_faulted waiting delivered printing printing_if_idle served waits_for finished service machine put_back with_register with_flags with_word operand found effect_of checked decided changed faulted ordered event_of stopped turned spent turn_of tick input port_next output_done happening plan_shape fresh every queued cleared queue_holds buffers_hold characters readied_once readied_tasks clock_holds port_holds flags_hold status_holds task_holds rules_hold out_of_range not_packed segment_right wrong_segments check event run
old_words =
    record {
      turn_of_all = refl;
      turn_of_one = refl;
      left_by_wait = refl;
      left_by_error = refl;
      received = refl;
      gone = refl;
      left_taken = refl;
      old_task = refl;
      typed_taken = refl;
      old_character = refl;
    }

-- The examples that the paper marks, proved together as one statement, by computation.
-- Every expected word was worked out by hand from the paper. Assumes nothing.
use Rattle.std.specs.Prelude.{Err, None, Ok, Result, Some}
use mathlib.Core.Path.{◌≡◌, refl}
use mathlib.Core.List.{List, [], ◌∷◌, ◌++◌}
use mathlib.Core.Bool.{false}
use Prim.Native.Nat.{ℕ, ◌+◌, ◌-◌, ◌*◌, ◌/◌, ◌%◌}
use lib.Count.{count_trailing_zeros}
use lib.IntN.{pos, negsuc}
use lib.ListN.{length, get_or, take, drop, replicate}
use lib.Ieee.{fin, span, climb, size, odd, units, round}
use Rattle.paper.specs.Image.{task, total, shape_of, place, at, put, clock}
use Rattle.paper.specs.Queues.{step, appended, first, taken, held, free, empty, full}
use Rattle.paper.specs.Flags.{pending}
use Rattle.paper.specs.Waking.{Outcome, dispatched, with_status, readied, woken, left, with_woken}
use Rattle.paper.specs.Services.{service_faulted, waiting, delivered, printing, printing_if_idle, served, waits_for, finished, service}
use Rattle.paper.specs.Machines.{machine, put_back}
use Rattle.paper.specs.Orders.{with_register, with_flags, with_word, operand, found, effect_of, checked, decided, changed, faulted}
use Rattle.paper.specs.Events.{event_of, ordered, stopped, turned, spent, turn_of, tick, input, port_next, output_done, happening}
use Rattle.paper.specs.Plans.{plan_shape, fresh}
use Rattle.paper.specs.Tests.{every, queued, cleared, queue_holds, buffers_hold, characters, readied_once, readied_tasks, clock_holds, port_holds, flags_hold, status_holds, task_holds, rules_hold}
use Rattle.paper.specs.Numbers.{number, verdict_number, kind, answer_task, out_of_range, not_packed, segment_right, wrong_segments, check, plan_broken, check_plan, check_build}
use Rattle.paper.specs.Calls.{built, event, run}
use Rattle.paper.specs.Counts.{all_counts, grown, most_count, counted_event, Reported, report, sum, share}
use Rattle.paper.specs.Runner.{words_of, check_file, decimal, line, printed_from, runner}
use Rattle.paper.specs.declared.Refusal.{Refusal}
use Rattle.paper.specs.declared.Queue.{Queue}
use Rattle.paper.specs.declared.Answer.{Answer}

-- what an event shows: its kind and task or, alone, the number of its refusal; and the image after it
pub record Shown : Type 0 where
  pub line : List ℕ
  pub image : List ℕ

abbrev line_of : Result Answer Refusal → List ℕ
line_of (Ok a) = kind a ∷ answer_task a ∷ []
line_of (Err r) = number r ∷ []

abbrev shown : Outcome → Shown
shown o = record { line = line_of o.reply; image = o.image }

abbrev pub shows : List ℕ → List ℕ → Shown
shows l im = record { line = l; image = im }

-- the event after the first k of a list, on the image that those leave of a plan's fresh one
abbrev nth_word : List ℕ → ℕ → ℕ → ℕ
nth_word events k j = get_or events (3 * k + j) 0

abbrev after : List ℕ → List ℕ → ℕ → List ℕ
after plan events k = (run (fresh plan) (take (3 * k) events)).image

abbrev pub event_after : List ℕ → List ℕ → ℕ → Shown
event_after plan events k =
    shown (event (after plan events k) (nth_word events k 0) (nth_word events k 1) (nth_word events k 2))

abbrev pub ticks : ℕ → List ℕ
ticks n = replicate (3 * n) 0

-- what a plan's last of n ticks shows of a plan of one task: the line, and that task's R0..R7 and flags
abbrev pub last_tick : List ℕ → ℕ → Shown
last_tick plan n =
    let o = event_after plan (ticks n) (n - 1) in
    shows o.line (take 9 (drop 18 o.image))

-- and of a plan of two tasks: the line, and the ready queue and the status table
abbrev pub last_tick_of_two : List ℕ → ℕ → Shown
last_tick_of_two plan n =
    let o = event_after plan (ticks n) (n - 1) in
    shows o.line (take 10 (drop 36 o.image))

-- "One run in full": its plan, its events, and its image after an event
abbrev full_plan : List ℕ
full_plan = 1 ∷ 2 ∷ 1 ∷ 1 ∷ 1 ∷ 4 ∷ 2 ∷ 4656 ∷ 4672 ∷ []

abbrev full_events : List ℕ
full_events = ticks 3 ++ (1 ∷ 0 ∷ 65 ∷ []) ++ ticks 5 ++ (2 ∷ 0 ∷ 0 ∷ 2 ∷ 0 ∷ 0 ∷ [])

abbrev full_event : ℕ → Shown
full_event k = event_after full_plan full_events (k - 1)

abbrev full_header : List ℕ
full_header = 19284 ∷ 1 ∷ 1 ∷ 2 ∷ 1 ∷ 1 ∷ 1 ∷ 18 ∷ 27 ∷ 32 ∷ 34 ∷ 39 ∷ 44 ∷ 49 ∷ 51 ∷ 53 ∷ 57 ∷ []

-- a queue of one slot: its slot is 0 once its word is taken
abbrev empty_queue : List ℕ
empty_queue = 0 ∷ 0 ∷ 0 ∷ 1 ∷ 0 ∷ []

abbrev full_queue : ℕ → List ℕ
full_queue w = 0 ∷ 0 ∷ 1 ∷ 1 ∷ w ∷ []

-- clock; task table; ready queue; status table; input, output and message buffer; port
abbrev full_image : ℕ → List ℕ → List ℕ → List ℕ → List ℕ → List ℕ → List ℕ → List ℕ
full_image c tasks ready status input output port =
    full_header ++ (c ∷ tasks) ++ ready ++ status ++ input ++ output ++ empty_queue ++ port ++
    (53 ∷ 4 ∷ 4656 ∷ 4672 ∷ 0 ∷ 0 ∷ [])

-- the same as files, and the text of its eleven lines
abbrev bytes_of : List ℕ → List ℕ
bytes_of [] = []
bytes_of (w ∷ words) = (w % 256) ∷ (w / 256) ∷ bytes_of words

abbrev full_text : List ℕ
full_text =
    (49 ∷ 32 ∷ 54 ∷ 32 ∷ 48 ∷ 10 ∷ []) ++
    (50 ∷ 32 ∷ 52 ∷ 32 ∷ 48 ∷ 10 ∷ []) ++
    (51 ∷ 32 ∷ 48 ∷ 32 ∷ 48 ∷ 10 ∷ []) ++
    (52 ∷ 32 ∷ 56 ∷ 32 ∷ 48 ∷ 10 ∷ []) ++
    (53 ∷ 32 ∷ 51 ∷ 32 ∷ 48 ∷ 10 ∷ []) ++
    (54 ∷ 32 ∷ 54 ∷ 32 ∷ 48 ∷ 10 ∷ []) ++
    (55 ∷ 32 ∷ 50 ∷ 32 ∷ 48 ∷ 10 ∷ []) ++
    (56 ∷ 32 ∷ 51 ∷ 32 ∷ 48 ∷ 10 ∷ []) ++
    (57 ∷ 32 ∷ 55 ∷ 32 ∷ 48 ∷ 10 ∷ []) ++
    (49 ∷ 48 ∷ 32 ∷ 57 ∷ 32 ∷ 48 ∷ 10 ∷ []) ++
    (49 ∷ 49 ∷ 32 ∷ 114 ∷ 101 ∷ 102 ∷ 117 ∷ 115 ∷ 101 ∷ 100 ∷ 32 ∷ 57 ∷ 10 ∷ [])

-- the smallest plan
abbrev small_plan : List ℕ
small_plan = 1 ∷ 1 ∷ 1 ∷ 1 ∷ 1 ∷ 1 ∷ 0 ∷ []

-- load R1 with 0; call 0
abbrev call_plan : List ℕ
call_plan = 1 ∷ 2 ∷ 1 ∷ 1 ∷ 1 ∷ 4 ∷ 4 ∷ 272 ∷ 0 ∷ 4096 ∷ 0 ∷ []

-- service a
abbrev service_plan : ℕ → List ℕ
service_plan a = 1 ∷ 1 ∷ 1 ∷ 1 ∷ 1 ∷ 1 ∷ 1 ∷ (4608 + 16 * a) ∷ []

-- quotient of R2 by R3
abbrev quotient_plan : List ℕ
quotient_plan = 1 ∷ 1 ∷ 1 ∷ 1 ∷ 1 ∷ 1 ∷ 1 ∷ 2083 ∷ []

-- send (a 0 to itself); load R3 with 7; receive (from itself)
abbrev zero_plan : List ℕ
zero_plan = 1 ∷ 5 ∷ 1 ∷ 1 ∷ 1 ∷ 4 ∷ 4 ∷ 4624 ∷ 304 ∷ 7 ∷ 4640 ∷ []

-- two tasks of slice 1: task 0 sends to itself and then jumps on the spot, task 1 jumps on the spot;
-- after four ticks task 0 is first again with c = 1 and its send pending, and task 1 has one ahead
abbrev bound_plan : List ℕ
bound_plan = 2 ∷ 1 ∷ 1 ∷ 1 ∷ 1 ∷ 3 ∷ 3 ∷ 2 ∷ 2 ∷ 4624 ∷ 3584 ∷ 1 ∷ 3584 ∷ 0 ∷ []

abbrev bound_image : ℕ → List ℕ
bound_image k = after bound_plan (ticks 6) (4 + k)

abbrev bound_line : ℕ → List ℕ
bound_line k = (event_after bound_plan (ticks 6) (3 + k)).line

abbrev bound_ready : ℕ → List ℕ
bound_ready k = held (shape_of (bound_image k)) (bound_image k) Queue.Ready

-- load R2 with 9, which is no task; then the order w, a send or a receive
abbrev pub nobody_plan : ℕ → List ℕ
nobody_plan w = 1 ∷ 3 ∷ 1 ∷ 1 ∷ 1 ∷ 3 ∷ 3 ∷ 288 ∷ 9 ∷ w ∷ []

-- the counts of task 0 (orders, services, waits, faults, error stops, passed turns) and of the idle ticks, all others 0
abbrev counts_of : List ℕ → ℕ → List ℕ
counts_of row idle = row ++ replicate 90 0 ++ (idle ∷ [])

abbrev no_counts : List ℕ
no_counts = counts_of (replicate 6 0) 0

-- the counts of the full run: of its ticks, answered 6 4 0 3 6 2 3 7, two are orders, two finished services, and one each a wait, a fault, a passed turn and idle
abbrev full_counts : List ℕ
full_counts = counts_of (2 ∷ 2 ∷ 1 ∷ 1 ∷ 0 ∷ 1 ∷ []) 1

-- a report that took n events and was stopped by refusal r
abbrev stopped_by : Refusal → ℕ → List ℕ → List ℕ → Reported
stopped_by r n im counts = record { taken = n; stop = Err r; image = im; counts = counts }

pub record Worked : Type 0 where
  pub event_2 :
      full_event 2 ≡ shows (4 ∷ 0 ∷ [])
      (full_image 0 (1 ∷ 4 ∷ 0 ∷ 0 ∷ 0 ∷ 0 ∷ 0 ∷ 0 ∷ 96 ∷ []) empty_queue (3 ∷ 0 ∷ []) empty_queue empty_queue (0 ∷ 0 ∷ []))
  pub event_4 :
      full_event 4 ≡ shows (8 ∷ 0 ∷ [])
      (full_image 2 (1 ∷ 4 ∷ 0 ∷ 0 ∷ 0 ∷ 0 ∷ 0 ∷ 0 ∷ 96 ∷ []) (full_queue 0) (0 ∷ 0 ∷ []) (full_queue 65) empty_queue (0 ∷ 0 ∷ []))
  pub event_5 :
      full_event 5 ≡ shows (3 ∷ 0 ∷ [])
      (full_image 1 (1 ∷ 4 ∷ 0 ∷ 65 ∷ 0 ∷ 0 ∷ 0 ∷ 0 ∷ 0 ∷ []) (full_queue 0) (0 ∷ 0 ∷ []) empty_queue empty_queue (0 ∷ 0 ∷ []))
  pub event_8 :
      full_event 8 ≡ shows (3 ∷ 0 ∷ [])
      (full_image 1 (2 ∷ 4 ∷ 0 ∷ 65 ∷ 0 ∷ 0 ∷ 0 ∷ 0 ∷ 0 ∷ []) (full_queue 0) (0 ∷ 0 ∷ []) empty_queue empty_queue (1 ∷ 65 ∷ []))
  pub event_9 :
      full_event 9 ≡ shows (7 ∷ 0 ∷ [])
      (full_image 0 (2 ∷ 4 ∷ 0 ∷ 65 ∷ 0 ∷ 0 ∷ 0 ∷ 0 ∷ 8 ∷ []) (full_queue 0) (0 ∷ 0 ∷ []) empty_queue empty_queue (1 ∷ 65 ∷ []))
  pub full_run : runner (bytes_of full_plan) (bytes_of full_events) ≡ full_text
  pub smallest_length : length (built small_plan (replicate 54 9)) ≡ 54
  pub smallest_built : verdict_number (check_build small_plan (replicate 54 9)) ≡ 0
  pub smallest_taken : verdict_number (check (built small_plan (replicate 54 9))) ≡ 0
  pub smallest_cut : verdict_number (check (take 53 (fresh small_plan))) ≡ 5
  pub call_with_no_stack : last_tick call_plan 2 ≡ shows (7 ∷ 0 ∷ []) (2 ∷ 0 ∷ 0 ∷ 0 ∷ 0 ∷ 0 ∷ 0 ∷ 0 ∷ 4 ∷ [])
  pub service_0 : last_tick (service_plan 0) 1 ≡ shows (7 ∷ 0 ∷ []) (0 ∷ 1 ∷ 0 ∷ 0 ∷ 0 ∷ 0 ∷ 0 ∷ 0 ∷ 12 ∷ [])
  -- and the tick after it, an error stop
  pub error_stop :
      event_after (service_plan 0) (ticks 2) 1 ≡ shows (1 ∷ 0 ∷ [])
      ((19284 ∷ 1 ∷ 1 ∷ 1 ∷ 1 ∷ 1 ∷ 1 ∷ 18 ∷ 27 ∷ 32 ∷ 34 ∷ 39 ∷ 44 ∷ 49 ∷ 51 ∷ 53 ∷ 54 ∷ []) ++
      (0 ∷ 0 ∷ 1 ∷ 0 ∷ 0 ∷ 0 ∷ 0 ∷ 0 ∷ 0 ∷ 12 ∷ []) ++ empty_queue ++ (5 ∷ 0 ∷ []) ++
      empty_queue ++ empty_queue ++ empty_queue ++ (0 ∷ 0 ∷ 53 ∷ 1 ∷ 4608 ∷ []))
  pub service_4 : last_tick (service_plan 4) 1 ≡ shows (6 ∷ 0 ∷ []) (1 ∷ 1 ∷ 0 ∷ 0 ∷ 0 ∷ 0 ∷ 0 ∷ 0 ∷ 128 ∷ [])
  pub quotient_by_0 : last_tick quotient_plan 1 ≡ shows (7 ∷ 0 ∷ []) (0 ∷ 1 ∷ 0 ∷ 0 ∷ 0 ∷ 0 ∷ 0 ∷ 0 ∷ 16 ∷ [])
  pub before_zero : last_tick zero_plan 4 ≡ shows (6 ∷ 0 ∷ []) (4 ∷ 4 ∷ 0 ∷ 7 ∷ 0 ∷ 0 ∷ 0 ∷ 0 ∷ 64 ∷ [])
  pub received_zero : last_tick zero_plan 5 ≡ shows (3 ∷ 0 ∷ []) (4 ∷ 4 ∷ 0 ∷ 0 ∷ 0 ∷ 0 ∷ 0 ∷ 0 ∷ 0 ∷ [])
  pub bound_slice : (shape_of (bound_image 0)).slice ≡ 1
  pub bound_clock : at (shape_of (bound_image 0)) (bound_image 0) clock ≡ 1
  pub bound_pending : pending (shape_of (bound_image 0)) (bound_image 0) (task 0) ≡ 1
  pub bound_one_ahead : bound_ready 0 ≡ 0 ∷ 1 ∷ []
  pub bound_service : bound_line 1 ≡ 3 ∷ 0 ∷ []
  pub bound_not_yet : bound_ready 1 ≡ 0 ∷ 1 ∷ []
  pub bound_turn : bound_line 2 ≡ 2 ∷ 0 ∷ []
  pub bound_reached : bound_ready 2 ≡ 1 ∷ 0 ∷ []
  -- the full run, counted
  pub full_report :
      report (fresh full_plan) full_events no_counts ≡ stopped_by Refusal.PortIdle 10
      (full_image 0 (2 ∷ 4 ∷ 0 ∷ 65 ∷ 0 ∷ 0 ∷ 0 ∷ 0 ∷ 8 ∷ []) (full_queue 0) (0 ∷ 0 ∷ []) empty_queue empty_queue (0 ∷ 0 ∷ []))
      full_counts
  -- the idle ticks at their end: 17 at its event 3, the order and the wait before it kept
  pub count_at_its_end :
      report (fresh full_plan) full_events (counts_of (replicate 6 0) most_count) ≡ stopped_by Refusal.CountFull 2
      (full_image 0 (1 ∷ 4 ∷ 0 ∷ 0 ∷ 0 ∷ 0 ∷ 0 ∷ 0 ∷ 96 ∷ []) empty_queue (3 ∷ 0 ∷ []) empty_queue empty_queue (0 ∷ 0 ∷ []))
      (counts_of (1 ∷ 0 ∷ 1 ∷ 0 ∷ 0 ∷ 0 ∷ []) most_count)
  -- every count at its end: an input is taken, and an output done on an idle port is 9 and not 17
  pub count_tested_last :
      report (fresh full_plan) (1 ∷ 0 ∷ 65 ∷ 2 ∷ 0 ∷ 0 ∷ []) (replicate all_counts most_count) ≡ stopped_by Refusal.PortIdle 1
      (full_image 2 (0 ∷ 4 ∷ 0 ∷ 0 ∷ 0 ∷ 0 ∷ 0 ∷ 0 ∷ 0 ∷ []) (full_queue 0) (0 ∷ 0 ∷ []) (full_queue 65) empty_queue (0 ∷ 0 ∷ []))
      (replicate all_counts most_count)
  -- a send to no task, 6 6 5 1: two orders, a fault, an error stop
  pub fault_counted : (report (fresh (nobody_plan 4624)) (ticks 4) no_counts).counts ≡ counts_of (2 ∷ 0 ∷ 0 ∷ 1 ∷ 1 ∷ 0 ∷ []) 0
  -- shares: 7 of 8 ticks, none of them, no such task; all of 4; 2^33 - 1 of 2^33; no ticks at all
  pub share_of_seven : share full_counts 0 ≡ Some (fin false 7 (negsuc 2))
  pub share_of_none : share full_counts 1 ≡ Some (fin false 0 (pos 0))
  pub share_of_no_task : share full_counts 16 ≡ Some (fin false 0 (pos 0))
  pub share_of_all : share (counts_of (2 ∷ 0 ∷ 0 ∷ 1 ∷ 1 ∷ 0 ∷ []) 0) 0 ≡ Some (fin false 1 (pos 0))
  pub share_past_one_count : share (counts_of (most_count ∷ 1 ∷ most_count ∷ 0 ∷ 0 ∷ 0 ∷ []) 1) 0 ≡ Some (fin false 8589934591 (negsuc 32))
  pub share_without_ticks : share no_counts 0 ≡ None

pub worked : Worked
unfolding total shape_of place at put step appended first taken held free empty full dispatched with_status readied woken left with_woken service_faulted waiting delivered printing printing_if_idle served waits_for finished service machine put_back with_register with_flags with_word operand found effect_of checked decided changed faulted ordered event_of stopped turned spent turn_of tick input port_next output_done happening plan_shape fresh every queued cleared queue_holds buffers_hold characters readied_once readied_tasks clock_holds port_holds flags_hold status_holds task_holds rules_hold out_of_range not_packed segment_right wrong_segments check plan_broken check_plan check_build built event run grown counted_event report sum share span climb size count_trailing_zeros odd units round words_of check_file decimal line printed_from runner
worked =
    record {
      event_2 = refl;
      event_4 = refl;
      event_5 = refl;
      event_8 = refl;
      event_9 = refl;
      full_run = refl;
      smallest_length = refl;
      smallest_built = refl;
      smallest_taken = refl;
      smallest_cut = refl;
      call_with_no_stack = refl;
      service_0 = refl;
      error_stop = refl;
      service_4 = refl;
      quotient_by_0 = refl;
      before_zero = refl;
      received_zero = refl;
      bound_slice = refl;
      bound_clock = refl;
      bound_pending = refl;
      bound_one_ahead = refl;
      bound_service = refl;
      bound_not_yet = refl;
      bound_turn = refl;
      bound_reached = refl;
      full_report = refl;
      count_at_its_end = refl;
      count_tested_last = refl;
      fault_counted = refl;
      share_of_seven = refl;
      share_of_none = refl;
      share_of_no_task = refl;
      share_of_all = refl;
      share_past_one_count = refl;
      share_without_ticks = refl;
    }

-- An image of two tasks, written by hand, and what is seen of it, by computation. Assumes nothing.
use Rattle.std.specs.Prelude.{Ok, Err, Some, None}
use mathlib.Core.Path.{◌≡◌, refl}
use mathlib.Core.List.{List, [], ◌∷◌, ◌++◌}
use Prim.Native.Nat.{ℕ}
use lib.ListN.{take}
use Rattle.paper.specs.Image.{total, shape_of, place, at}
use Rattle.paper.specs.Queues.{step, held, free, empty, full}
use Rattle.paper.specs.Tests.{every, queued, cleared, queue_holds, buffers_hold, characters, readied_once, readied_tasks, clock_holds, port_holds, flags_hold, status_holds, task_holds, rules_hold}
use Rattle.paper.specs.Numbers.{out_of_range, not_packed, segment_right, wrong_segments, check}
use Rattle.paper.specs.declared.Refusal.{Refusal}
use Rattle.views.specs.Looks.{View, named_queue, task_seen, port_seen, register_seen, length_seen, word_seen, task_view, port_view, register_view, length_view, word_view}
use Rattle.views.specs.declared.TaskState.{TaskState}
use Rattle.views.specs.declared.PortState.{PortState}

-- N 2, S 3, CI 2, CO 1, CM 2; 103 words; clock 3
abbrev header : List ℕ
header = 19284 ∷ 1 ∷ 2 ∷ 3 ∷ 2 ∷ 1 ∷ 2 ∷ 18 ∷ 36 ∷ 42 ∷ 46 ∷ 58 ∷ 68 ∷ 92 ∷ 96 ∷ 100 ∷ 103 ∷ 3 ∷ []

-- task 0 waits for a message from task 1, with cc 1; task 1 is ready, with cc 2 and error 4
abbrev tasks : List ℕ
tasks =
    (10 ∷ 11 ∷ 1 ∷ 13 ∷ 14 ∷ 15 ∷ 16 ∷ 17 ∷ 65 ∷ []) ++ (20 ∷ 21 ∷ 22 ∷ 23 ∷ 24 ∷ 25 ∷ 26 ∷ 65535 ∷ 18 ∷ [])

abbrev ready_and_statuses : List ℕ
ready_and_statuses = (1 ∷ 0 ∷ 1 ∷ 2 ∷ 0 ∷ 1 ∷ []) ++ (2 ∷ 1 ∷ 0 ∷ 0 ∷ [])

-- the input of task 1 holds 65 and 66, from slot 1 on; its output holds 67
abbrev inputs_and_outputs : List ℕ
inputs_and_outputs =
    (0 ∷ 0 ∷ 0 ∷ 2 ∷ 0 ∷ 0 ∷ []) ++ (1 ∷ 1 ∷ 2 ∷ 2 ∷ 66 ∷ 65 ∷ []) ++ (0 ∷ 0 ∷ 0 ∷ 1 ∷ 0 ∷ []) ++ (0 ∷ 0 ∷ 1 ∷ 1 ∷ 67 ∷ [])

-- from 0 to 1 there are 400 and 500, from slot 1 on, and from 1 to itself 65535
abbrev messages : List ℕ
messages =
    (0 ∷ 0 ∷ 0 ∷ 2 ∷ 0 ∷ 0 ∷ []) ++ (1 ∷ 1 ∷ 2 ∷ 2 ∷ 500 ∷ 400 ∷ []) ++ (1 ∷ 1 ∷ 0 ∷ 2 ∷ 0 ∷ 0 ∷ []) ++ (0 ∷ 1 ∷ 1 ∷ 2 ∷ 65535 ∷ 0 ∷ [])

-- port 1 is busy with 68; segments of 1 and 2 words
abbrev ports_and_segments : List ℕ
ports_and_segments = (0 ∷ 0 ∷ 1 ∷ 68 ∷ []) ++ (100 ∷ 1 ∷ 101 ∷ 2 ∷ []) ++ (5 ∷ 6 ∷ 7 ∷ [])

abbrev image : List ℕ
image = header ++ tasks ++ ready_and_statuses ++ inputs_and_outputs ++ messages ++ ports_and_segments

abbrev state : ℕ → ℕ → ℕ → ℕ → ℕ → View TaskState
state a p c e v = Ok (Some (record { status = a; peer = p; cc = c; error = e; pending = v }))

abbrev port : ℕ → ℕ → View PortState
port b c = Ok (Some (record { busy = b; character = c }))

-- what is seen of its tasks
pub record SeenOfTasks : Type 0 where
  pub waiting : task_view image 0 ≡ state 2 1 1 0 2
  pub ready : task_view image 1 ≡ state 0 0 2 4 0
  pub no_task : task_view image 2 ≡ Ok None
  pub idle : port_view image 0 ≡ port 0 0
  pub busy : port_view image 1 ≡ port 1 68
  pub no_port : port_view image 2 ≡ Ok None
  pub last_register : register_view image 0 7 ≡ Ok (Some 17)
  pub full_register : register_view image 1 7 ≡ Ok (Some 65535)
  pub no_register : register_view image 0 8 ≡ Ok None
  pub no_task_to_have_it : register_view image 2 0 ≡ Ok None

pub seen_of_tasks : SeenOfTasks
unfolding total shape_of place at step held free empty full every queued cleared queue_holds buffers_hold characters readied_once readied_tasks clock_holds port_holds flags_hold status_holds task_holds rules_hold out_of_range not_packed segment_right wrong_segments check named_queue task_seen port_seen register_seen length_seen word_seen task_view port_view register_view length_view word_view
seen_of_tasks =
    record {
      waiting = refl;
      ready = refl;
      no_task = refl;
      idle = refl;
      busy = refl;
      no_port = refl;
      last_register = refl;
      full_register = refl;
      no_register = refl;
      no_task_to_have_it = refl;
    }

-- of its queues
pub record SeenOfQueues : Type 0 where
  pub ready_length : length_view image 0 0 0 ≡ Ok (Some 1)
  pub ready_word : word_view image 0 0 0 0 ≡ Ok (Some 1)
  pub input_length : length_view image 1 1 0 ≡ Ok (Some 2)
  pub input_first : word_view image 1 1 0 0 ≡ Ok (Some 65)
  pub input_second : word_view image 1 1 0 1 ≡ Ok (Some 66)
  pub input_third : word_view image 1 1 0 2 ≡ Ok None
  pub output_word : word_view image 2 1 0 0 ≡ Ok (Some 67)
  pub message_second : word_view image 3 0 1 1 ≡ Ok (Some 500)
  pub none_the_other_way : length_view image 3 1 0 ≡ Ok (Some 0)
  pub full_word : word_view image 3 1 1 0 ≡ Ok (Some 65535)
  pub ready_of_a_task : length_view image 0 1 0 ≡ Ok None
  pub input_of_two : length_view image 1 1 1 ≡ Ok None
  pub output_of_no_task : length_view image 2 2 0 ≡ Ok None
  pub message_to_no_task : length_view image 3 1 2 ≡ Ok None
  pub queue_4 : word_view image 4 0 0 0 ≡ Ok None

pub seen_of_queues : SeenOfQueues
unfolding total shape_of place at step held free empty full every queued cleared queue_holds buffers_hold characters readied_once readied_tasks clock_holds port_holds flags_hold status_holds task_holds rules_hold out_of_range not_packed segment_right wrong_segments check named_queue task_seen port_seen register_seen length_seen word_seen task_view port_view register_view length_view word_view
seen_of_queues =
    record {
      ready_length = refl;
      ready_word = refl;
      input_length = refl;
      input_first = refl;
      input_second = refl;
      input_third = refl;
      output_word = refl;
      message_second = refl;
      none_the_other_way = refl;
      full_word = refl;
      ready_of_a_task = refl;
      input_of_two = refl;
      output_of_no_task = refl;
      message_to_no_task = refl;
      queue_4 = refl;
    }

-- nothing of an image that is cut, or of no words
pub record NotSeen : Type 0 where
  pub cut : task_view (take 102 image) 0 ≡ Err Refusal.WrongSegments
  pub no_words : word_view [] 4 0 0 0 ≡ Err Refusal.TooShort

pub not_seen : NotSeen
unfolding total shape_of place at step held free empty full every queued cleared queue_holds buffers_hold characters readied_once readied_tasks clock_holds port_holds flags_hold status_holds task_holds rules_hold out_of_range not_packed segment_right wrong_segments check named_queue task_seen port_seen register_seen length_seen word_seen task_view port_view register_view length_view word_view
not_seen =
    record {
      cut = refl;
      no_words = refl;
    }

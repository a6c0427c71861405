-- The five impostors of "Promises that only this kernel meets": on one image the outcome of each is none that the promise permits.
-- And the order of tests: a bad image gives its own number, whatever the event and the list. Computed. Assumes nothing.
use Rattle.std.specs.Prelude.{Err, Ok, Result}
use mathlib.Core.Path.{◌≡◌, refl, sym, ap, ◌∙◌}
use mathlib.Core.List.{List, [], ◌∷◌}
use mathlib.Core.Logic.{◌≢◌}
use Prim.Native.Nat.{ℕ}
use native.Mathlib.Omega.{arith}
use lib.ListN.{get_or}
use Rattle.paper.specs.Image.{task, total, shape_of, place, at, put}
use Rattle.paper.specs.Queues.{step, appended, first, taken, held, free, empty, full}
use Rattle.paper.specs.Waking.{dispatched, with_status, readied, woken, left, with_woken}
use Rattle.paper.specs.Services.{service_faulted, waiting, delivered, printing, printing_if_idle, served, waits_for, finished, service}
use Rattle.paper.specs.Machines.{machine, put_back}
use Rattle.paper.specs.Orders.{with_register, with_flags, with_word, operand, found, effect_of, checked, decided, changed, faulted}
use Rattle.paper.specs.Events.{event_of, ordered, stopped, turned, spent, turn_of, tick, input, port_next, output_done, happening}
use Rattle.paper.specs.Plans.{plan_shape, fresh}
use Rattle.paper.specs.Tests.{every, queued, cleared, queue_holds, buffers_hold, characters, readied_once, readied_tasks, clock_holds, port_holds, flags_hold, status_holds, task_holds, rules_hold}
use Rattle.paper.specs.Numbers.{reply_number, reply_values, verdict_number, out_of_range, not_packed, segment_right, wrong_segments, check}
use Rattle.paper.specs.Calls.{event, run}
use Rattle.paper.specs.Promises.{Happens, Runs}
use Rattle.paper.specs.declared.Ended.{Ended}
use Rattle.paper.specs.declared.Answer.{Answer}
use Rattle.paper.specs.declared.Refusal.{Refusal}

-- the fresh image of the plan of "One run in full", a tick, and a list of two
abbrev image : List ℕ
image = fresh (1 ∷ 2 ∷ 1 ∷ 1 ∷ 1 ∷ 4 ∷ 2 ∷ 4656 ∷ 4672 ∷ [])

abbrev two_ticks : List ℕ
two_ticks = 0 ∷ 0 ∷ 0 ∷ 0 ∷ 0 ∷ 0 ∷ []

-- the first task's R0, its flags and its status in an image of that plan
abbrev r0 : List ℕ → ℕ
r0 im = get_or im 18 0

abbrev status_word : List ℕ → ℕ
status_word im = get_or im 32 0

-- what the kernel does there: the first tick carries out an order, the second one waits for input
record Computed : Type 0 where
  first_reply : (event image 0 0 0).reply ≡ Ok (Answer.OrderDone (task 0))
  r0_before : r0 image ≡ 0
  r0_after : r0 (event image 0 0 0).image ≡ 1
  status_after_one : status_word (event image 0 0 0).image ≡ 0
  status_after_two : status_word (run image two_ticks).image ≡ 3
  both_taken : (run image two_ticks).taken ≡ 2
  bad_image_first : reply_number (event [] 9 9 9).reply ≡ 1
  bad_image_before_list : verdict_number (run [] (0 ∷ [])).stop ≡ 1

computed : Computed
unfolding total shape_of place at put step appended first taken held free empty full dispatched with_status readied woken left with_woken service_faulted waiting delivered printing printing_if_idle served waits_for finished service machine put_back with_register with_flags with_word operand found effect_of checked decided changed faulted ordered event_of stopped turned spent turn_of tick input port_next output_done happening plan_shape fresh every queued cleared queue_holds buffers_hold characters readied_once readied_tasks clock_holds port_holds flags_hold status_holds task_holds rules_hold out_of_range not_packed segment_right wrong_segments check event run
computed =
    record {
      first_reply = refl;
      r0_before = refl;
      r0_after = refl;
      status_after_one = refl;
      status_after_two = refl;
      both_taken = refl;
      bad_image_first = refl;
      bad_image_before_list = refl;
    }

pub record ShutOut : Type 0 where
  -- refuses every event
  pub refusing : (r : Refusal) (after : List ℕ) → Happens image 0 0 0 (Err r) after → ⊥
  -- answers idle each time
  pub idling : (after : List ℕ) → Happens image 0 0 0 (Ok Answer.Idle) after → ⊥
  -- leaves the image untouched
  pub untouching : (answer : Result Answer Refusal) → Happens image 0 0 0 answer image → ⊥
  -- carries out event 1 and merely answers for the rest
  pub starting : (answer : Ended) → Runs image two_ticks answer (event image 0 0 0).image → ⊥
  -- a run whose taken-count does not match the image
  pub miscounting : (answer : Ended) (after : List ℕ) → answer.taken ≢ 2 → Runs image two_ticks answer after → ⊥
  -- tests the image after the event
  pub image_last : (answer : Result Answer Refusal) (after : List ℕ) → reply_number answer ≡ 7 → Happens [] 9 9 9 answer after → ⊥
  -- tests the list's length before the image
  pub list_first : (answer : Ended) (after : List ℕ) → verdict_number answer.stop ≡ 7 → Runs [] (0 ∷ []) answer after → ⊥

-- a word that would have to be two words
clash : (a b : ℕ) → a ≢ b → (x y : ℕ) → x ≡ a → y ≡ b → x ≡ y → ⊥
clash a b ne x y ea eb e = ne (sym ea ∙ e ∙ eb)

pub shut_out : ShutOut
shut_out =
    record {
      refusing = λ r after p. let z : ◌≡◌ {A = ℕ} 0 1 = never r (p.answered ∙ computed.first_reply) in omega arith;
      idling = λ after p.
          let e : ◌≡◌ {A = ℕ} 0 6 = ap (λ (a : Result Answer Refusal). get_or (reply_values a) 0 9) (p.answered ∙ computed.first_reply) in
          omega arith;
      untouching = λ answer p. clash 0 1 (omega arith) (r0 image) (r0 (event image 0 0 0).image) computed.r0_before computed.r0_after (ap r0 p.left);
      starting = λ answer p.
          clash 0 3 (omega arith) (status_word (event image 0 0 0).image) (status_word (run image two_ticks).image) computed.status_after_one computed.status_after_two (ap status_word p.left);
      miscounting = λ answer after ne p. ne (p.counted ∙ computed.both_taken);
      image_last = λ answer after e p. clash 7 1 (omega arith) (reply_number answer) (reply_number (event [] 9 9 9).reply) e computed.bad_image_first p.numbered;
      list_first = λ answer after e p. clash 7 1 (omega arith) (verdict_number answer.stop) (verdict_number (run [] (0 ∷ [])).stop) e computed.bad_image_before_list p.numbered;
    }
  where
    never : (r : Refusal) → Err r ≡ Ok (Answer.OrderDone (task 0)) → ◌≡◌ {A = ℕ} 0 1
    never r e = cc

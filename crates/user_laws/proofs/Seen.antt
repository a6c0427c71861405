-- The words that are sent and got in two runs that the paper works out: a character from a device to the port, and a zero that a task sends to itself. Proved by computation.
use Rattle.std.specs.Prelude.{Result}
use mathlib.Core.Path.{◌≡◌, refl}
use mathlib.Core.List.{List, [], ◌∷◌, ◌++◌}
use Prim.Native.Nat.{ℕ, ◌+◌, ◌*◌}
use lib.ListN.{get_or, take, replicate}
use Rattle.paper.specs.Image.{task, total, shape_of, place, at, put}
use Rattle.paper.specs.Queues.{step, appended, first, taken, held, free, empty, full}
use Rattle.paper.specs.Waking.{dispatched, with_status, readied, woken, left, with_woken}
use Rattle.paper.specs.Services.{service_faulted, waiting, delivered, printing, printing_if_idle, served, waits_for, finished, service}
use Rattle.paper.specs.Machines.{machine, put_back}
use Rattle.paper.specs.Orders.{with_register, with_flags, with_word, operand, found, effect_of, checked, decided, changed, faulted}
use Rattle.paper.specs.Events.{event_of, ordered, stopped, turned, spent, turn_of, tick, input, port_next, output_done, happening}
use Rattle.paper.specs.Plans.{plan_shape, fresh}
use Rattle.paper.specs.Calls.{run_from}
use Rattle.paper.specs.declared.Queue.{Queue}
use Rattle.user_laws.specs.Words.{done, sent, got, leaver, all_sent, all_got}
use Rattle.paper.specs.declared.Answer.{Answer}
use Rattle.paper.specs.declared.Refusal.{Refusal}

-- calls on the events of a list, from a plan's fresh image on
module _ (plan events : List ℕ) where
  abbrev word : ℕ → ℕ → ℕ
  word n j = get_or events (3 * n + j) 0

  abbrev image : ℕ → List ℕ
  image n = (run_from (plan_shape plan) (fresh plan) (take (3 * n) events)).image

  abbrev reply : ℕ → Result Answer Refusal
  reply n = (happening (plan_shape plan) (image n) (event_of (plan_shape plan) (word n 0) (word n 1) (word n 2))).reply

  abbrev sent_to : Queue → ℕ → List ℕ
  sent_to q n = all_sent (plan_shape plan) image word reply q n

  abbrev got_from : Queue → ℕ → List ℕ
  got_from q n = all_got (plan_shape plan) image word reply q n

-- "One run in full": three ticks, the character 65, five ticks, output done
abbrev full_plan : List ℕ
full_plan = 1 ∷ 2 ∷ 1 ∷ 1 ∷ 1 ∷ 4 ∷ 2 ∷ 4656 ∷ 4672 ∷ []

abbrev full_events : List ℕ
full_events = replicate 9 0 ++ (1 ∷ 0 ∷ 65 ∷ []) ++ replicate 15 0 ++ (2 ∷ 0 ∷ 0 ∷ [])

-- send (a 0 to itself); load R3 with 7; receive (from itself)
abbrev zero_plan : List ℕ
zero_plan = 1 ∷ 5 ∷ 1 ∷ 1 ∷ 1 ∷ 4 ∷ 4 ∷ 4624 ∷ 304 ∷ 7 ∷ 4640 ∷ []

abbrev five_ticks : List ℕ
five_ticks = replicate 15 0

pub record Seen : Type 0 where
  -- the character enters with event 4 and is got with event 5, and is sent on and got by the port with event 8
  pub entered : sent_to full_plan full_events (Queue.Input (task 0)) 10 ≡ 65 ∷ []
  pub not_yet : got_from full_plan full_events (Queue.Input (task 0)) 4 ≡ []
  pub arrived : got_from full_plan full_events (Queue.Input (task 0)) 10 ≡ 65 ∷ []
  pub printed : sent_to full_plan full_events (Queue.Output (task 0)) 10 ≡ 65 ∷ []
  pub at_port : got_from full_plan full_events (Queue.Output (task 0)) 10 ≡ 65 ∷ []
  -- the task leaves the ready queue with event 2, waiting, and passes its turn with event 7; with event 3 it is not there
  pub waits : leaver (reply full_plan full_events 1) ≡ 0 ∷ []
  pub idle : leaver (reply full_plan full_events 2) ≡ []
  pub passes : leaver (reply full_plan full_events 6) ≡ 0 ∷ []
  -- the zero is sent with tick 2 and got with tick 5, where R3 held 7
  pub zero_sent : sent_to zero_plan five_ticks (Queue.Message (task 0) (task 0)) 5 ≡ 0 ∷ []
  pub zero_kept : got_from zero_plan five_ticks (Queue.Message (task 0) (task 0)) 4 ≡ []
  pub zero_got : got_from zero_plan five_ticks (Queue.Message (task 0) (task 0)) 5 ≡ 0 ∷ []

pub seen : Seen
unfolding total shape_of place at put step appended first taken held free empty full dispatched with_status readied woken left with_woken service_faulted waiting delivered printing printing_if_idle served waits_for finished service machine put_back with_register with_flags with_word operand found effect_of checked decided changed faulted ordered event_of stopped turned spent turn_of tick input port_next output_done happening plan_shape fresh done sent got
seen =
    record {
      entered = refl;
      not_yet = refl;
      arrived = refl;
      printed = refl;
      at_port = refl;
      waits = refl;
      idle = refl;
      passes = refl;
      zero_sent = refl;
      zero_kept = refl;
      zero_got = refl;
    }

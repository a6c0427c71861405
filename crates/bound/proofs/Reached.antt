-- The bound is reached: three tasks of slice 1, each with an output pending when its turn comes. Proved by computation. Assumes nothing.
use Rattle.std.specs.Prelude.{Ok}
use mathlib.Core.Path.{◌≡◌, refl}
use mathlib.Core.List.{List, [], ◌∷◌, map}
use Prim.Native.Nat.{ℕ, ◌*◌}
use native.Mathlib.Omega.{arith}
use lib.ListN.{replicate}
use Rattle.paper.specs.Image.{task, total, shape_of, place, at, put}
use Rattle.paper.specs.Queues.{step, appended, first, taken, held, free, empty, full}
use Rattle.paper.specs.Waking.{dispatched, with_status, readied, woken, left, with_woken}
use Rattle.paper.specs.Services.{service_faulted, waiting, delivered, printing, printing_if_idle, served, waits_for, finished, service}
use Rattle.paper.specs.Machines.{machine, put_back}
use Rattle.paper.specs.Orders.{with_register, with_flags, with_word, operand, found, effect_of, checked, decided, changed, faulted}
use Rattle.paper.specs.Events.{event_of, ordered, stopped, turned, spent, turn_of, tick, input, port_next, output_done, happening}
use Rattle.paper.specs.Plans.{plan_shape, fresh}
use Rattle.paper.specs.Tests.{every, queued, cleared, queue_holds, buffers_hold, characters, readied_once, readied_tasks, clock_holds, port_holds, flags_hold, status_holds, task_holds, rules_hold}
use Rattle.paper.specs.Numbers.{out_of_range, not_packed, segment_right, wrong_segments, check}
use Rattle.paper.specs.Calls.{run_from}
use Rattle.paper.specs.declared.Shape.{Shape}
use Rattle.paper.specs.declared.Queue.{Queue}
use Rattle.bound.specs.Bound.{bound, InLine, most_ticks, ticks}

-- n ticks
abbrev some_ticks : ℕ → List ℕ
some_ticks n = replicate (3 * n) 0

-- 3 tasks, slice 1, and for each the orders output, output
abbrev plan : List ℕ
plan = 3 ∷ 1 ∷ 1 ∷ 1 ∷ 1 ∷ 2 ∷ 2 ∷ 2 ∷ 2 ∷ 2 ∷ 2 ∷ 4672 ∷ 4672 ∷ 4672 ∷ 4672 ∷ 4672 ∷ 4672 ∷ []

abbrev shape : Shape
shape = plan_shape plan

-- the image after each has asked for its first output, an order and a turn each; and so many ticks later
abbrev start : List ℕ
start = (run_from shape (fresh plan) (some_ticks 6)).image

abbrev later : ℕ → List ℕ
later n = (run_from shape start (some_ticks n)).image

-- the case that the paper works out, one ahead, is reached at tick 2: the record of the worked examples has it
pub one_ahead : bound 1 1 1 ≡ 2
one_ahead = refl

-- task 2 stands there with two ahead of it; the bound is 4 ticks, and it is not first after any fewer
pub record Reached : Type 0 where
  pub in_line : InLine shape start (task 2) 2
  pub bound_is : most_ticks shape start 2 ≡ 4
  pub counted : ticks (some_ticks 4) ≡ most_ticks shape start 2
  pub fine : (run_from shape start (some_ticks 4)).stop ≡ Ok tt
  -- who is first after 0, 1, .. 4 ticks
  pub firsts : map (λ n. first shape (later n) Queue.Ready) (0 ∷ 1 ∷ 2 ∷ 3 ∷ 4 ∷ []) ≡ 0 ∷ 0 ∷ 1 ∷ 1 ∷ 2 ∷ []

pub reached : Reached
unfolding total shape_of place at put step appended first taken held free empty full dispatched with_status readied woken left with_woken service_faulted waiting delivered printing printing_if_idle served waits_for finished service machine put_back with_register with_flags with_word operand found effect_of checked decided changed faulted ordered event_of stopped turned spent turn_of tick input port_next output_done happening plan_shape fresh every queued cleared queue_holds buffers_hold characters readied_once readied_tasks clock_holds port_holds flags_hold status_holds task_holds rules_hold out_of_range not_packed segment_right wrong_segments check
reached =
    record {
      in_line = record { checked = refl; shaped = refl; behind = (omega arith, refl); others = omega arith };
      bound_is = refl;
      counted = refl;
      fine = refl;
      firsts = refl;
    }

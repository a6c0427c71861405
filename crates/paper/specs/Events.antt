-- "Events": the three kinds, the tick's five rules, input and output done.
use Rattle.std.specs.Prelude.{Bool, not, cond, ◌&&◌, List, ℕ, ◌-◌, eqb, leb, ltb, None, Option, Result, Some}
use Rattle.paper.specs.Image.{task, most_character, at, put, clock, status, busy, character}
use Rattle.paper.specs.Queues.{appended, first, taken, empty, full}
use Rattle.paper.specs.Flags.{error, pending, waits, is_stopped}
use Rattle.paper.specs.Waking.{Answered, answered, Outcome, accepted, accepting, refused, left, one_if, with_woken}
use Rattle.paper.specs.Services.{asked, printing, service}
use Rattle.paper.specs.Orders.{order, after_order, order_answer}
use Rattle.paper.specs.declared.Task.{Task}
use Rattle.paper.specs.declared.Shape.{Shape}
use Rattle.paper.specs.declared.Queue.{Queue}
use Rattle.paper.specs.declared.Service.{Service}
use Rattle.paper.specs.declared.Event.{Event}
use Rattle.paper.specs.declared.Answer.{Answer}
use Rattle.paper.specs.declared.Refusal.{Refusal}
use Rattle.paper.specs.declared.Change.{Change}

-- kind 0 is a tick, the other two words 0
abbrev pub is_tick : ℕ → ℕ → ℕ → Bool
is_tick k d c = eqb k 0 && eqb d 0 && eqb c 0

-- kind 1 is an input, device < N, character at most 255
abbrev pub is_input : Shape → ℕ → ℕ → ℕ → Bool
is_input s k d c = eqb k 1 && ltb d s.n && leb c most_character

-- kind 2 is output done, device < N, character 0
abbrev pub is_output_done : Shape → ℕ → ℕ → ℕ → Bool
is_output_done s k d c = eqb k 2 && ltb d s.n && eqb c 0

-- an event is three words: kind, device, character; device i belongs to task i
unfoldable pub event_of : Shape → ℕ → ℕ → ℕ → Event
event_of s k d c =
    cond (is_tick k d c) Event.Tick
    (cond (is_input s k d c) (Event.Input (task d) c)
    (cond (is_output_done s k d c) (Event.OutputDone (task d)) Event.Malformed))

-- the first task
abbrev pub running : Shape → List ℕ → Task
running s im = task (first s im Queue.Ready)

-- rule 2: its status becomes 5, it leaves the queue, dispatch
unfoldable pub stopped : Shape → List ℕ → Task → List ℕ
stopped s im i = left s (put s im (status i) is_stopped)

-- rule 3: the first task is taken, then appended, clock becomes S
unfoldable pub turned : Shape → List ℕ → Task → List ℕ
turned s im i = put s (appended s (taken s im Queue.Ready) Queue.Ready i.0) clock s.slice

-- the clock falls by 1
unfoldable pub spent : Shape → List ℕ → List ℕ
spent s im = put s im clock (at s im clock - 1)

-- rule 4: the clock falls by 1, then the service is done, waits or faults
abbrev pub serving : Shape → List ℕ → Task → Service → Answered
serving s im i v = service s (spent s im) i v

-- rule 5: one order; the clock falls by 1, also when the order faults
unfoldable pub ordered : Shape → List ℕ → Task → Result (ℕ × Change) ℕ → Answered
ordered s im i e = answered (order_answer i e) (spent s (after_order s im i e))

-- rules 4 and 5
abbrev pub acting : Shape → List ℕ → Task → Option Service → Answered
acting s im i (Some v) = serving s im i v
acting s im i None = ordered s im i (order s im i)

-- rules 2 to 5, of the first task
unfoldable pub turn_of : Shape → List ℕ → Task → Answered
turn_of s im i =
    cond (not (eqb (error s im i) 0)) (answered (Answer.ErrorStop i) (stopped s im i))
    (cond (eqb (at s im clock) 0) (answered (Answer.TurnPassed i) (turned s im i))
    (acting s im i (asked (pending s im i))))

-- tick, the first rule that applies; rule 1: ready queue empty, nothing changes
unfoldable pub tick : Shape → List ℕ → Answered
tick s im = cond (empty s im Queue.Ready) (answered Answer.Idle im) (turn_of s im (running s im))

-- input event: append; wake the owner if it waits for input
unfoldable pub input : Shape → List ℕ → Task → ℕ → Outcome
input s im i c =
    cond (full s im (Queue.Input i)) (refused Refusal.InputFull im)
    (accepted (Answer.Input i) (with_woken s (appended s im (Queue.Input i) c) (one_if (eqb (at s im (status i)) (waits Service.Input)) i)))

-- the port takes the first word of the output buffer and stays busy, or goes idle with character 0
unfoldable pub port_next : Shape → List ℕ → Task → List ℕ
port_next s im i =
    cond (empty s im (Queue.Output i)) (put s (put s im (busy i) 0) (character i) 0) (printing s im i)

-- output done: the port goes on; the owner is woken if it waits for output
unfoldable pub output_done : Shape → List ℕ → Task → Outcome
output_done s im i =
    cond (eqb (at s im (busy i)) 0) (refused Refusal.PortIdle im)
    (accepted (Answer.OutputDone i) (with_woken s (port_next s im i) (one_if (eqb (at s im (status i)) (waits Service.Output)) i)))

-- one event; a malformed one is refused
unfoldable pub happening : Shape → List ℕ → Event → Outcome
happening s im Event.Tick = accepting (tick s im)
happening s im (Event.Input i c) = input s im i c
happening s im (Event.OutputDone i) = output_done s im i
happening s im Event.Malformed = refused Refusal.MalformedEvent im

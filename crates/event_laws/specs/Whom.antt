-- Whom an event wakes; and a task that is as it was.
use Rattle.std.specs.Prelude.{◌≡◌, List, Bool, not, cond, ◌||◌, ℕ, ◌<◌, eqb, None, Option, Some}
use Rattle.paper.specs.Image.{at, clock, reg, status, peer}
use Rattle.paper.specs.Queues.{empty}
use Rattle.paper.specs.Flags.{error, pending, waits}
use Rattle.paper.specs.Waking.{one_if}
use Rattle.paper.specs.Services.{asked, fault_of, blocked, wakes}
use Rattle.paper.specs.Events.{running}
use Rattle.paper.specs.declared.Task.{Task}
use Rattle.paper.specs.declared.Shape.{Shape}
use Rattle.paper.specs.declared.Queue.{Queue}
use Rattle.paper.specs.declared.Service.{Service}
use Rattle.paper.specs.declared.Event.{Event}

-- a service wakes where it is not wrong and its buffer does not stop it
abbrev pub woken_unless : Option ℕ → Bool → Option Task → Option Task
woken_unless (Some e) stopped w = None
woken_unless None stopped w = cond stopped None w

abbrev pub asked_wakes : Shape → List ℕ → Task → Option Service → Option Task
asked_wakes s im i None = None
asked_wakes s im i (Some v) = woken_unless (fault_of s im i v) (blocked s im i v) (wakes s im i v)

-- a tick wakes by rule 4 alone, where the rules before it do not apply
abbrev pub tick_wakes : Shape → List ℕ → Task → Option Task
tick_wakes s im i =
    cond (empty s im Queue.Ready || not (eqb (error s im i) 0) || eqb (at s im clock) 0) None (asked_wakes s im i (asked (pending s im i)))

-- a device event wakes its owner, if it waits for that
abbrev pub whom : Shape → List ℕ → Event → Option Task
whom s im Event.Tick = tick_wakes s im (running s im)
whom s im (Event.Input i c) = one_if (eqb (at s im (status i)) (waits Service.Input)) i
whom s im (Event.OutputDone i) = one_if (eqb (at s im (status i)) (waits Service.Output)) i
whom s im Event.Malformed = None

-- a task's status, peer, registers and flags are as they were
pub record Unmoved (s : Shape) (im m : List ℕ) (j : Task) : Type 0 where
  pub status : at s m (status j) ≡ at s im (status j)
  pub peer : at s m (peer j) ≡ at s im (peer j)
  pub words : (r : ℕ) → r < 9 → at s m (reg j r) ≡ at s im (reg j r)

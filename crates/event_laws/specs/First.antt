-- That the first task keeps its place in the ready queue, and which answers of a tick tell so.
use Rattle.std.specs.Prelude.{◌≡◌, List, ◌++◌, Bool, true, false}
use Prim.Native.Nat.{ℕ}
use Rattle.paper.specs.Queues.{held}
use Rattle.paper.specs.declared.Shape.{Shape}
use Rattle.paper.specs.declared.Queue.{Queue}
use Rattle.paper.specs.declared.Answer.{Answer}

-- the first task keeps its place: at most one that was woken stands at the tail
pub record KeepsPlace (s : Shape) (im m : List ℕ) : Type 0 where
  pub joined : List ℕ
  pub now : held s m Queue.Ready ≡ held s im Queue.Ready ++ joined

-- whether a rule before an order leaves the first task first, as its answer tells: a service that is done or faulted
abbrev pub stays_first : Answer → Bool
stays_first Answer.Idle = false
stays_first (Answer.ErrorStop i) = false
stays_first (Answer.TurnPassed i) = false
stays_first (Answer.ServiceDone i) = true
stays_first (Answer.ServiceWaits i) = false
stays_first (Answer.ServiceFaulted i) = true
stays_first (Answer.OrderDone i) = false
stays_first (Answer.OrderFaulted i) = false
stays_first (Answer.Input i) = false
stays_first (Answer.OutputDone i) = false

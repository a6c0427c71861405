-- "Events", the services: what a pending service does for the first task, i.
use Rattle.std.specs.Prelude.{Bool, cond, ◌&&◌, List, [], ◌∷◌, ℕ, zero, suc, eqb, leb, ltb, length, None, Option, Some}
use Rattle.paper.specs.Image.{task, most_character, at, put, reg, status, peer, busy, character}
use Rattle.paper.specs.Queues.{appended, first, taken, empty, full}
use Rattle.paper.specs.Flags.{cc, error, put_flags, waits}
use Rattle.paper.specs.Waking.{Answered, answered, with_status, left, one_if, with_woken}
use Rattle.paper.specs.declared.Task.{Task}
use Rattle.paper.specs.declared.Shape.{Shape}
use Rattle.paper.specs.declared.Queue.{Queue}
use Rattle.paper.specs.declared.Service.{Service}
use Rattle.paper.specs.declared.Answer.{Answer}

-- send (1), receive (2), input (3), output (4)
abbrev pub services : List Service
services = Service.Send ∷ Service.Receive ∷ Service.Input ∷ Service.Output ∷ []

-- the service of a number; 0 asks for nothing
abbrev pub numbered : List Service → ℕ → Option Service
numbered [] k = None
numbered (v ∷ vs) zero = Some v
numbered (v ∷ vs) (suc k) = numbered vs k

abbrev pub asked : ℕ → Option Service
asked zero = None
asked (suc k) = numbered services k

-- the numbers of services: 1..4
abbrev pub known_service : ℕ → Bool
known_service a = leb 1 a && leb a (length services)

-- send takes the peer in R2 and the word in R3; receive takes the source in R2; output takes R3
abbrev pub other : Shape → List ℕ → Task → Task
other s im i = task (at s im (reg i 2))

abbrev pub given : Shape → List ℕ → Task → ℕ
given s im i = at s im (reg i 3)

-- the errors of services
abbrev pub no_such_task : ℕ
no_such_task = 5

abbrev pub no_character : ℕ
no_character = 6

-- such an error is set and clears pending
unfoldable pub service_faulted : Shape → List ℕ → Task → ℕ → List ℕ
service_faulted s im i e = put_flags s im i (cc s im i) e 0

abbrev pub error_if : Bool → ℕ → Option ℕ
error_if b e = cond b (Some e) None

-- a number in R2 of N or more gives error 5; output of more than 255 gives error 6
abbrev pub fault_of : Shape → List ℕ → Task → Service → Option ℕ
fault_of s im i Service.Send = error_if (leb s.n (other s im i).0) no_such_task
fault_of s im i Service.Receive = error_if (leb s.n (other s im i).0) no_such_task
fault_of s im i Service.Input = None
fault_of s im i Service.Output = error_if (ltb most_character (given s im i)) no_character

-- both come before the buffer is looked at
abbrev pub unless_wrong : Option ℕ → Shape → List ℕ → Task → Answered → Answered
unless_wrong (Some e) s im i o = answered (Answer.ServiceFaulted i) (service_faulted s im i e)
unless_wrong None s im i o = o

-- the buffer of a service
abbrev pub buffer : Shape → List ℕ → Task → Service → Queue
buffer s im i Service.Send = Queue.Message i (other s im i)
buffer s im i Service.Receive = Queue.Message (other s im i) i
buffer s im i Service.Input = Queue.Input i
buffer s im i Service.Output = Queue.Output i

-- on a full or an empty buffer the task waits
abbrev pub blocks : Service → Shape → List ℕ → Queue → Bool
blocks Service.Send s im q = full s im q
blocks Service.Receive s im q = empty s im q
blocks Service.Input s im q = empty s im q
blocks Service.Output s im q = full s im q

abbrev pub blocked : Shape → List ℕ → Task → Service → Bool
blocked s im i v = blocks v s im (buffer s im i v)

-- the peer field of a task that waits
abbrev pub awaited : Shape → List ℕ → Task → Service → ℕ
awaited s im i Service.Send = (other s im i).0
awaited s im i Service.Receive = (other s im i).0
awaited s im i Service.Input = 0
awaited s im i Service.Output = 0

-- it takes its waiting status, leaves the queue, keeps pending and registers, then dispatch
unfoldable pub waiting : Shape → List ℕ → Task → Service → List ℕ
waiting s im i v = left s (with_status s im i (waits v) (awaited s im i v))

-- a word taken from a queue is delivered to R3
unfoldable pub delivered : Shape → List ℕ → Task → Queue → List ℕ
delivered s im i q = put s (taken s im q) (reg i 3) (first s im q)

-- the first word of the output buffer goes to the port, which becomes busy
unfoldable pub printing : Shape → List ℕ → Task → List ℕ
printing s im i =
    put s (put s (taken s im (Queue.Output i)) (busy i) 1) (character i) (first s im (Queue.Output i))

-- an output is appended; if the port is idle, the first word then goes to the port
unfoldable pub printing_if_idle : Shape → List ℕ → Task → List ℕ
printing_if_idle s im i = cond (eqb (at s im (busy i)) 0) (printing s im i) im

-- otherwise the word moves, to or from the buffer
abbrev pub moves : Service → Shape → List ℕ → Task → Queue → List ℕ
moves Service.Send s im i q = appended s im q (given s im i)
moves Service.Receive s im i q = delivered s im i q
moves Service.Input s im i q = delivered s im i q
moves Service.Output s im i q = printing_if_idle s (appended s im q (given s im i)) i

abbrev pub moved : Shape → List ℕ → Task → Service → List ℕ
moved s im i v = moves v s im i (buffer s im i v)

-- and pending becomes 0
unfoldable pub served : Shape → List ℕ → Task → Service → List ℕ
served s im i v = put_flags s (moved s im i v) i (cc s im i) (error s im i) 0

-- task j waits with service v for task i
unfoldable pub waits_for : Shape → List ℕ → Task → Service → Task → Bool
waits_for s im j v i = eqb (at s im (status j)) (waits v) && eqb (at s im (peer j)) i.0

-- a send wakes the peer if it waits to receive from the sender; a receive wakes the source if it waits to send to the receiver
abbrev pub wakes : Shape → List ℕ → Task → Service → Option Task
wakes s im i Service.Send = one_if (waits_for s im (other s im i) Service.Receive i) (other s im i)
wakes s im i Service.Receive = one_if (waits_for s im (other s im i) Service.Send i) (other s im i)
wakes s im i Service.Input = None
wakes s im i Service.Output = None

-- the word moves, and whoever waits for that is woken
unfoldable pub finished : Shape → List ℕ → Task → Service → Answered
finished s im i v = answered (Answer.ServiceDone i) (with_woken s (served s im i v) (wakes s im i v))

-- a service: the wrong number first, then the buffer, then the word moves
unfoldable pub service : Shape → List ℕ → Task → Service → Answered
service s im i v =
    unless_wrong (fault_of s im i v) s im i
    (cond (blocked s im i v) (answered (Answer.ServiceWaits i) (waiting s im i v)) (finished s im i v))

-- The rules of an image one by one, in the order of "Image" and "What an image must hold", that of request 6 last: what each is of, and what it asks.
use Rattle.std.specs.Prelude.{List, Bool, true, not, cond, ◌&&◌, ◌||◌, ℕ, ◌+◌, ◌-◌, ◌*◌, ◌/◌, ◌%◌, eqb, leb, ltb, length}
use Rattle.paper.specs.Image.{task, most_character, at, clock, status, peer, busy, character}
use Rattle.paper.specs.Queues.{header_capacity, head, tail, count, capacity, held, empty}
use Rattle.paper.specs.Flags.{cc, error, pending, most_cc, most_error, waits, is_stopped}
use Rattle.paper.specs.Services.{services}
use Rattle.paper.specs.Tests.{all_below, implies, queued, cleared, readied_tasks, readied_once, stands_as}
use Rattle.paper.specs.declared.Task.{Task}
use Rattle.paper.specs.declared.Shape.{Shape}
use Rattle.paper.specs.declared.Queue.{Queue}
use Rattle.paper.specs.declared.Service.{Service}
use Rattle.single_rules.specs.declared.Rule.{Rule}
use Rattle.single_rules.specs.declared.Kind.{Kind}

-- 1: cc 0..2, error 0..6, pending 0..4
unfoldable pub fields_within : Shape → List ℕ → Task → Bool
fields_within s im i = leb (cc s im i) most_cc && leb (error s im i) most_error && leb (pending s im i) (length services)

-- 2: error and pending are never both non-zero
unfoldable pub one_at_most : Shape → List ℕ → Task → Bool
one_at_most s im i = eqb (error s im i) 0 || eqb (pending s im i) 0

-- 3: status 0..5
unfoldable pub known : Shape → List ℕ → Task → Bool
known s im i = leb (at s im (status i)) is_stopped

-- 4: a queue has the header's capacity
unfoldable pub headers_own : Shape → List ℕ → Queue → Bool
headers_own s im q = eqb (at s im (capacity s q)) (header_capacity s q)

-- 5: head and tail below it
unfoldable pub ends_below : Shape → List ℕ → Queue → Bool
ends_below s im q = ltb (at s im (head s q)) (header_capacity s q) && ltb (at s im (tail s q)) (header_capacity s q)

-- 6: length at most it
unfoldable pub length_within : Shape → List ℕ → Queue → Bool
length_within s im q = leb (at s im (count s q)) (header_capacity s q)

-- 7: (head + length) mod capacity = tail
unfoldable pub round : Shape → List ℕ → Queue → Bool
round s im q = eqb ((at s im (head s q) + at s im (count s q)) % header_capacity s q) (at s im (tail s q))

-- the words that a queue holds are below m; a queue that breaks one of the rules before holds nothing that could be told
unfoldable pub below : Shape → List ℕ → Queue → ℕ → Bool
below s im q m = implies (queued s im q) (all_below m (held s im q))

-- 8: words held in input and output buffers are at most 255
abbrev pub only_characters : Shape → List ℕ → Queue → Bool
only_characters s im Queue.Ready = true
only_characters s im (Queue.Input i) = below s im (Queue.Input i) (most_character + 1)
only_characters s im (Queue.Output i) = below s im (Queue.Output i) (most_character + 1)
only_characters s im (Queue.Message i j) = true

-- 9: the ready queue holds no number but a task's
abbrev pub only_tasks : Shape → List ℕ → Queue → Bool
only_tasks s im Queue.Ready = below s im Queue.Ready s.n
only_tasks s im (Queue.Input i) = true
only_tasks s im (Queue.Output i) = true
only_tasks s im (Queue.Message i j) = true

-- 10: it holds each task of status 0 exactly once, and no other task
unfoldable pub once_if_ready : Shape → List ℕ → Task → Bool
once_if_ready s im i = implies (queued s im Queue.Ready && readied_tasks s im) (readied_once s im i)

-- 11: clock at most S
unfoldable pub clock_within : Shape → List ℕ → Bool
clock_within s im = leb (at s im clock) s.slice

-- 12: 0 where the ready queue is empty
unfoldable pub clock_idle : Shape → List ℕ → Bool
clock_idle s im = implies (empty s im Queue.Ready) (eqb (at s im clock) 0)

-- 13: busy 0 or 1, character at most 255
unfoldable pub port_within : Shape → List ℕ → Task → Bool
port_within s im i = leb (at s im (busy i)) 1 && leb (at s im (character i)) most_character

-- 14: an idle port has character 0 and its output buffer is empty
unfoldable pub port_idle : Shape → List ℕ → Task → Bool
port_idle s im i = implies (eqb (at s im (busy i)) 0) (eqb (at s im (character i)) 0 && empty s im (Queue.Output i))

-- 15 to 18: a task that waits stands as its status asks
unfoldable pub stands : Service → Shape → List ℕ → Task → Bool
stands v s im i = stands_as s im i v

-- 19: status 5 has an error
unfoldable pub stopped : Shape → List ℕ → Task → Bool
stopped s im i = implies (eqb (at s im (status i)) is_stopped) (not (eqb (error s im i) 0))

-- 20: outside 1 and 2 the peer is 0
unfoldable pub no_peer : Shape → List ℕ → Task → Bool
no_peer s im i =
    eqb (at s im (status i)) (waits Service.Send) || eqb (at s im (status i)) (waits Service.Receive) || eqb (at s im (peer i)) 0

-- 21: 0 in every free slot; a queue that breaks one of the rules 4 to 7 has no free slots that could be told
unfoldable pub free_zeros : Shape → List ℕ → Queue → Bool
free_zeros s im q = implies (queued s im q) (cleared s im q)

-- a rule is asked of each task, of each queue, or of the clock
pub data Asks : Type 0 where
  of_tasks : (Shape → List ℕ → Task → Bool) → Asks
  of_queues : (Shape → List ℕ → Queue → Bool) → Asks
  of_clock : (Shape → List ℕ → Bool) → Asks

-- the rules, in their order
abbrev pub asks : Rule → Asks
asks Rule.Flags = of_tasks fields_within
asks Rule.Both = of_tasks one_at_most
asks Rule.Status = of_tasks known
asks Rule.Capacity = of_queues headers_own
asks Rule.HeadTail = of_queues ends_below
asks Rule.Length = of_queues length_within
asks Rule.Round = of_queues round
asks Rule.Characters = of_queues only_characters
asks Rule.Tasks = of_queues only_tasks
asks Rule.Readied = of_tasks once_if_ready
asks Rule.ClockRange = of_clock clock_within
asks Rule.ClockIdle = of_clock clock_idle
asks Rule.Port = of_tasks port_within
asks Rule.IdlePort = of_tasks port_idle
asks Rule.Sends = of_tasks (stands Service.Send)
asks Rule.Receives = of_tasks (stands Service.Receive)
asks Rule.Inputs = of_tasks (stands Service.Input)
asks Rule.Outputs = of_tasks (stands Service.Output)
asks Rule.Stopped = of_tasks stopped
asks Rule.Peerless = of_tasks no_peer
asks Rule.FreeSlots = of_queues free_zeros

-- what a rule is of
abbrev pub kind_asked : Asks → Kind
kind_asked (of_tasks f) = Kind.Task
kind_asked (of_queues f) = Kind.Queue
kind_asked (of_clock f) = Kind.Clock

abbrev pub kind : Rule → Kind
kind r = kind_asked (asks r)

-- how many queues there are; how many tasks, queues or clocks
abbrev pub queues : Shape → ℕ
queues s = 1 + s.n + s.n + s.n * s.n

abbrev pub subjects : Shape → Kind → ℕ
subjects s Kind.Task = s.n
subjects s Kind.Queue = queues s
subjects s Kind.Clock = 1

-- queue k: the ready queue, the input buffers, the output buffers, the message buffers from 0 to 0, 0 to 1 and so on
unfoldable pub queue : Shape → ℕ → Queue
queue s k =
    cond (eqb k 0) Queue.Ready
    (cond (ltb (k - 1) s.n) (Queue.Input (task (k - 1)))
    (cond (ltb (k - 1 - s.n) s.n) (Queue.Output (task (k - 1 - s.n)))
    (Queue.Message (task ((k - 1 - s.n - s.n) / s.n)) (task ((k - 1 - s.n - s.n) % s.n)))))

-- a rule holds of task k, of queue k, or of the clock
abbrev pub holds_asked : Shape → List ℕ → Asks → ℕ → Bool
holds_asked s im (of_tasks f) k = f s im (task k)
holds_asked s im (of_queues f) k = f s im (queue s k)
holds_asked s im (of_clock f) k = f s im

abbrev pub holds : Shape → List ℕ → Rule → ℕ → Bool
holds s im r k = holds_asked s im (asks r) k

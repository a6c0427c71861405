-- The rules of "What an image must hold" as tests that compute, in the order of Rules: what number 6 goes by.
use Rattle.std.specs.Prelude.{List, [], ◌∷◌, Bool, true, not, cond, ◌&&◌, ◌||◌, ℕ, zero, suc, ◌+◌, ◌%◌, eqb, leb, ltb, length}
use Rattle.paper.specs.Image.{task, most_character, at, clock, reg, status, peer, busy, character}
use Rattle.paper.specs.Queues.{header_capacity, head, tail, count, capacity, held, free, empty, full}
use Rattle.paper.specs.Flags.{cc, error, pending, most_cc, most_error, is_ready, waits, is_stopped}
use Rattle.paper.specs.Services.{services}
use Rattle.paper.specs.Rules.{times, partner}
use Rattle.paper.specs.declared.Task.{Task}
use Rattle.paper.specs.declared.Shape.{Shape}
use Rattle.paper.specs.declared.Queue.{Queue}
use Rattle.paper.specs.declared.Service.{Service}

-- a test passes at each number below n
unfoldable pub every : ℕ → (ℕ → Bool) → Bool
every zero f = true
every (suc k) f = every k f && f k

-- for every task
abbrev pub every_task : Shape → (Task → Bool) → Bool
every_task s f = every s.n (λ k. f (task k))

-- each word of a list is below m
abbrev pub all_below : ℕ → List ℕ → Bool
all_below m [] = true
all_below m (w ∷ ws) = ltb w m && all_below m ws

-- where a holds, b does
abbrev pub implies : Bool → Bool → Bool
implies a b = not a || b

-- a queue: the header's capacity, head, tail and length within it, (head + length) mod capacity = tail
unfoldable pub queued : Shape → List ℕ → Queue → Bool
queued s im q =
    eqb (at s im (capacity s q)) (header_capacity s q) && ltb (at s im (head s q)) (at s im (capacity s q)) &&
    ltb (at s im (tail s q)) (at s im (capacity s q)) && leb (at s im (count s q)) (at s im (capacity s q)) &&
    eqb ((at s im (head s q) + at s im (count s q)) % at s im (capacity s q)) (at s im (tail s q))

-- 0 in every free slot
unfoldable pub cleared : Shape → List ℕ → Queue → Bool
cleared s im q = all_below 1 (free s im q)

-- every queue
unfoldable pub queue_holds : Shape → List ℕ → Queue → Bool
queue_holds s im q = queued s im q && cleared s im q

-- the ready queue holds no number but a task's
unfoldable pub readied_tasks : Shape → List ℕ → Bool
readied_tasks s im = all_below s.n (held s im Queue.Ready)

-- clock at most S; 0 where the ready queue is empty
unfoldable pub clock_holds : Shape → List ℕ → Bool
clock_holds s im = leb (at s im clock) s.slice && implies (empty s im Queue.Ready) (eqb (at s im clock) 0)

-- the input and output buffer of task i, and its message buffers to every task
unfoldable pub buffers_hold : Shape → List ℕ → Task → Bool
buffers_hold s im i =
    queue_holds s im (Queue.Input i) && queue_holds s im (Queue.Output i) && every_task s (λ j. queue_holds s im (Queue.Message i j))

-- words held in input and output buffers are at most 255
unfoldable pub characters : Shape → List ℕ → Task → Bool
characters s im i =
    all_below (most_character + 1) (held s im (Queue.Input i)) && all_below (most_character + 1) (held s im (Queue.Output i))

-- the ready queue holds each task of status 0 exactly once, and no other task
unfoldable pub readied_once : Shape → List ℕ → Task → Bool
readied_once s im i = eqb (times i.0 (held s im Queue.Ready)) (cond (eqb (at s im (status i)) is_ready) 1 0)

-- busy 0 or 1, character at most 255; an idle port has character 0 and its output buffer is empty
unfoldable pub port_holds : Shape → List ℕ → Task → Bool
port_holds s im i =
    leb (at s im (busy i)) 1 && leb (at s im (character i)) most_character &&
    implies (eqb (at s im (busy i)) 0) (eqb (at s im (character i)) 0 && empty s im (Queue.Output i))

-- cc 0..2, error 0..6, pending 0..4; error and pending are never both non-zero
unfoldable pub flags_hold : Shape → List ℕ → Task → Bool
flags_hold s im i =
    leb (cc s im i) most_cc && leb (error s im i) most_error && leb (pending s im i) (length services) &&
    (eqb (error s im i) 0 || eqb (pending s im i) 0)

-- R2 = peer < N
abbrev pub peered : Shape → List ℕ → Task → Bool
peered s im i = eqb (at s im (reg i 2)) (at s im (peer i)) && ltb (at s im (peer i)) s.n

-- what each waiting status asks
abbrev pub standing : Shape → List ℕ → Task → Service → Bool
standing s im i Service.Send =
    eqb (pending s im i) 1 && peered s im i && full s im (Queue.Message i (partner s im i))
standing s im i Service.Receive =
    eqb (pending s im i) 2 && peered s im i && empty s im (Queue.Message (partner s im i) i)
standing s im i Service.Input = eqb (pending s im i) 3 && empty s im (Queue.Input i)
standing s im i Service.Output =
    eqb (pending s im i) 4 && leb (at s im (reg i 3)) most_character && full s im (Queue.Output i)

-- where task i waits with service v, it stands so
abbrev pub stands_as : Shape → List ℕ → Task → Service → Bool
stands_as s im i v = implies (eqb (at s im (status i)) (waits v)) (standing s im i v)

-- status 0..5; 1 to 4 as they ask; 5 has an error; outside 1 and 2 the peer is 0
unfoldable pub status_holds : Shape → List ℕ → Task → Bool
status_holds s im i =
    leb (at s im (status i)) is_stopped && stands_as s im i Service.Send && stands_as s im i Service.Receive &&
    stands_as s im i Service.Input && stands_as s im i Service.Output &&
    implies (eqb (at s im (status i)) is_stopped) (not (eqb (error s im i) 0)) &&
    (eqb (at s im (status i)) (waits Service.Send) || eqb (at s im (status i)) (waits Service.Receive) || eqb (at s im (peer i)) 0)

-- the rules of task i
unfoldable pub task_holds : Shape → List ℕ → Task → Bool
task_holds s im i =
    buffers_hold s im i && characters s im i && readied_once s im i && port_holds s im i && flags_hold s im i && status_holds s im i

-- all rules
unfoldable pub rules_hold : Shape → List ℕ → Bool
rules_hold s im = queue_holds s im Queue.Ready && readied_tasks s im && clock_holds s im && every_task s (task_holds s im)

-- What can be seen of an image: a task, a port, a register, a queue. Of an image that the check refuses nothing is seen.
use Rattle.std.specs.Prelude.{Bool, cond, ◌&&◌, List, [], ◌∷◌, ℕ, zero, suc, eqb, ltb, Err, Ok, Result, Option, Some, None, ⊤}
use Rattle.paper.specs.Image.{task as task_of, shape_of, at, reg, status, peer, busy, character}
use Rattle.paper.specs.Queues.{count, held}
use Rattle.paper.specs.Flags.{cc, error, pending}
use Rattle.paper.specs.Numbers.{check}
use Rattle.paper.specs.declared.Task.{Task}
use Rattle.paper.specs.declared.Shape.{Shape}
use Rattle.paper.specs.declared.Queue.{Queue}
use Rattle.views.specs.declared.TaskState.{TaskState}
use Rattle.views.specs.declared.PortState.{PortState}
use Rattle.paper.specs.declared.Refusal.{Refusal}

-- what a call answers: the refusal of an image that is not good, or what is there, if it is
abbrev pub View : Type 0 → Type 0
View A = Result (Option A) Refusal

-- a task has eight registers
abbrev pub registers : ℕ
registers = 8

-- what a task stands in
abbrev pub task_state : Shape → List ℕ → Task → TaskState
task_state s im i =
    record {
      status = at s im (status i);
      peer = at s im (peer i);
      cc = cc s im i;
      error = error s im i;
      pending = pending s im i;
    }

-- what a port stands in
abbrev pub port_state : Shape → List ℕ → Task → PortState
port_state s im d = record { busy = at s im (busy d); character = at s im (character d) }

-- a queue, where it is there
abbrev pub queue_if : Bool → Queue → Option Queue
queue_if there q = cond there (Some q) None

-- queue 0 is the ready queue, the two tasks 0
abbrev pub ready_queue : ℕ → ℕ → Option Queue
ready_queue i j = queue_if (eqb i 0 && eqb j 0) Queue.Ready

-- queue 1 is the input buffer of task i, the second task 0
abbrev pub input_buffer : Shape → ℕ → ℕ → Option Queue
input_buffer s i j = queue_if (ltb i s.n && eqb j 0) (Queue.Input (task_of i))

-- queue 2 is the output buffer of task i, the second task 0
abbrev pub output_buffer : Shape → ℕ → ℕ → Option Queue
output_buffer s i j = queue_if (ltb i s.n && eqb j 0) (Queue.Output (task_of i))

-- queue 3 is the message buffer from task i to task j
abbrev pub message_buffer : Shape → ℕ → ℕ → Option Queue
message_buffer s i j = queue_if (ltb i s.n && ltb j s.n) (Queue.Message (task_of i) (task_of j))

-- other numbers name no queue
unfoldable pub named_queue : Shape → ℕ → ℕ → ℕ → Option Queue
named_queue s q i j =
    cond (eqb q 0) (ready_queue i j)
    (cond (eqb q 1) (input_buffer s i j)
    (cond (eqb q 2) (output_buffer s i j)
    (cond (eqb q 3) (message_buffer s i j) None)))

-- the word at a place of a list, counted from 0
abbrev pub word_in : List ℕ → ℕ → Option ℕ
word_in [] k = None
word_in (w ∷ ws) zero = Some w
word_in (w ∷ ws) (suc k) = word_in ws k

-- what a good image shows: of a task below N
unfoldable pub task_seen : Shape → List ℕ → ℕ → Option TaskState
task_seen s im t = cond (ltb t s.n) (Some (task_state s im (task_of t))) None

-- of a port below N
unfoldable pub port_seen : Shape → List ℕ → ℕ → Option PortState
port_seen s im d = cond (ltb d s.n) (Some (port_state s im (task_of d))) None

-- of a register of a task
unfoldable pub register_seen : Shape → List ℕ → ℕ → ℕ → Option ℕ
register_seen s im t r =
    cond (ltb t s.n && ltb r registers) (Some (at s im (reg (task_of t) r))) None

-- of a queue: how many words it holds
unfoldable pub length_seen : Shape → List ℕ → Option Queue → Option ℕ
length_seen s im (Some q) = Some (at s im (count s q))
length_seen s im None = None

-- and each of them, from the first to the last
unfoldable pub word_seen : Shape → List ℕ → Option Queue → ℕ → Option ℕ
word_seen s im (Some q) k = word_in (held s im q) k
word_seen s im None k = None

-- the image is checked first
abbrev pub if_good : {A : Type 0} → Result ⊤ Refusal → Option A → View A
if_good (Ok tt) seen = Ok seen
if_good (Err r) seen = Err r

-- what each call answers
unfoldable pub task_view : List ℕ → ℕ → View TaskState
task_view im t = if_good (check im) (task_seen (shape_of im) im t)

unfoldable pub port_view : List ℕ → ℕ → View PortState
port_view im d = if_good (check im) (port_seen (shape_of im) im d)

unfoldable pub register_view : List ℕ → ℕ → ℕ → View ℕ
register_view im t r = if_good (check im) (register_seen (shape_of im) im t r)

unfoldable pub length_view : List ℕ → ℕ → ℕ → ℕ → View ℕ
length_view im q i j = if_good (check im) (length_seen (shape_of im) im (named_queue (shape_of im) q i j))

unfoldable pub word_view : List ℕ → ℕ → ℕ → ℕ → ℕ → View ℕ
word_view im q i j k = if_good (check im) (word_seen (shape_of im) im (named_queue (shape_of im) q i j) k)

-- "Events": what an event comes to, dispatch, waking and waiting.
use Rattle.std.specs.Prelude.{Bool, cond, List, ℕ, Err, None, Ok, Option, Result, Some}
use Rattle.paper.specs.Image.{put, clock, status, peer}
use Rattle.paper.specs.Queues.{appended, taken, empty}
use Rattle.paper.specs.Flags.{is_ready}
use Rattle.paper.specs.declared.Task.{Task}
use Rattle.paper.specs.declared.Shape.{Shape}
use Rattle.paper.specs.declared.Queue.{Queue}
use Rattle.paper.specs.declared.Answer.{Answer}
use Rattle.paper.specs.declared.Refusal.{Refusal}

-- what a tick comes to: its answer, and the image after it
pub record Answered : Type 0 where
  pub answer : Answer
  pub image : List ℕ

abbrev pub answered : Answer → List ℕ → Answered
answered a im = record { answer = a; image = im }

-- what an event comes to: the reply, and the image after it
pub record Outcome : Type 0 where
  pub reply : Result Answer Refusal
  pub image : List ℕ

abbrev pub outcome : Result Answer Refusal → List ℕ → Outcome
outcome r im = record { reply = r; image = im }

abbrev pub accepted : Answer → List ℕ → Outcome
accepted a im = outcome (Ok a) im

abbrev pub accepting : Answered → Outcome
accepting t = accepted t.answer t.image

abbrev pub refused : Refusal → List ℕ → Outcome
refused r im = outcome (Err r) im

-- dispatch: clock becomes S, or 0 if the ready queue is empty
unfoldable pub dispatched : Shape → List ℕ → List ℕ
dispatched s im = put s im clock (cond (empty s im Queue.Ready) 0 s.slice)

-- a task's status and peer written anew
unfoldable pub with_status : Shape → List ℕ → Task → ℕ → ℕ → List ℕ
with_status s im i k p = put s (put s im (status i) k) (peer i) p

-- waking: status 0, peer 0, append to the ready queue
unfoldable pub readied : Shape → List ℕ → Task → List ℕ
readied s im i = appended s (with_status s im i is_ready 0) Queue.Ready i.0

-- if that queue was empty, dispatch
unfoldable pub woken : Shape → List ℕ → Task → List ℕ
woken s im i = cond (empty s im Queue.Ready) (dispatched s (readied s im i)) (readied s im i)

-- the first task leaves the queue, dispatch
unfoldable pub left : Shape → List ℕ → List ℕ
left s im = dispatched s (taken s im Queue.Ready)

-- whom a test wakes
abbrev pub one_if : Bool → Task → Option Task
one_if b i = cond b (Some i) None

unfoldable pub with_woken : Shape → List ℕ → Option Task → List ℕ
with_woken s im None = im
with_woken s im (Some i) = woken s im i

-- The words that events put into a queue and take out of it, as the user sees them: by answers, registers and the port.
use Rattle.std.specs.Prelude.{◌≡◌, List, [], ◌∷◌, ◌++◌, Bool, false, not, cond, ◌&&◌, ◌||◌, ℕ, zero, suc, eqb, Err, Ok, Result}
use Rattle.paper.specs.Image.{at, reg, busy, character}
use Rattle.paper.specs.Queues.{held, empty}
use Rattle.paper.specs.Flags.{pending, waits}
use Rattle.paper.specs.Numbers.{kind, answer_task}
use Rattle.paper.specs.declared.Task.{Task}
use Rattle.paper.specs.declared.Shape.{Shape}
use Rattle.paper.specs.declared.Queue.{Queue}
use Rattle.paper.specs.declared.Service.{Service}
use Rattle.paper.specs.declared.Answer.{Answer}
use Rattle.paper.specs.declared.Refusal.{Refusal}

-- accepted, and answered (k, i): kind k, of task i
abbrev pub told : Result Answer Refusal → ℕ → Task → Bool
told (Ok a) k i = eqb (kind a) k && eqb (answer_task a) i.0
told (Err r) k i = false

-- service v is done for task i: it was pending, and the answer is (3, i)
unfoldable pub done : Shape → List ℕ → Result Answer Refusal → Task → Service → Bool
done s im r i v = told r 3 i && eqb (pending s im i) (waits v)

-- the reply that the service of task i is done
abbrev pub served_reply : Task → Result Answer Refusal
served_reply i = Ok (Answer.ServiceDone i)

-- the port of task i takes a word: at an output while it is idle, or at an output done, answered (9, i), while words are held
abbrev pub prints : Shape → List ℕ → Result Answer Refusal → Task → Bool
prints s im r i =
    (done s im r i Service.Output && eqb (at s im (busy i)) 0) || (told r 9 i && not (empty s im (Queue.Output i)))

-- a word where a test holds, and else none
abbrev pub word_if : Bool → ℕ → List ℕ
word_if b w = cond b (w ∷ []) []

-- the words that an event puts into a queue, where im is the image before, c the event's character, r the reply
unfoldable pub sent : Shape → List ℕ → ℕ → Result Answer Refusal → Queue → List ℕ
sent s im c r Queue.Ready = []
sent s im c r (Queue.Input i) = word_if (told r 8 i) c
sent s im c r (Queue.Output i) = word_if (done s im r i Service.Output) (at s im (reg i 3))
sent s im c r (Queue.Message i j) = word_if (done s im r i Service.Send && eqb (at s im (reg i 2)) j.0) (at s im (reg i 3))

-- the words that it takes out, as they arrive: in R3 or at the port, in the image after
unfoldable pub got : Shape → List ℕ → Result Answer Refusal → List ℕ → Queue → List ℕ
got s im r after Queue.Ready = []
got s im r after (Queue.Input i) = word_if (done s im r i Service.Input) (at s after (reg i 3))
got s im r after (Queue.Output i) = word_if (prints s im r i) (at s after (character i))
got s im r after (Queue.Message i j) = word_if (done s im r j Service.Receive && eqb (at s im (reg j 2)) i.0) (at s after (reg j 3))

-- the task that leaves the head of the ready queue: it stops, passes its turn or waits, answered 1, 2 or 4
abbrev pub leaver : Result Answer Refusal → List ℕ
leaver (Ok a) = word_if (eqb (kind a) 1 || eqb (kind a) 2 || eqb (kind a) 4) (answer_task a)
leaver (Err r) = []

-- what a queue held and then what was sent is what was got and then what it holds
abbrev pub Balanced : Shape → List ℕ → ℕ → Result Answer Refusal → List ℕ → Queue → Type 0
Balanced s im c r after q = held s im q ++ sent s im c r q ≡ got s im r after q ++ held s after q

-- the words of events one after another: event n has the words word n 0, 1 and 2, finds image n, is answered reply n, and leaves image n + 1
module _ (s : Shape) (image : ℕ → List ℕ) (word : ℕ → ℕ → ℕ) (reply : ℕ → Result Answer Refusal) (q : Queue) where
  abbrev pub all_sent : ℕ → List ℕ
  all_sent zero = []
  all_sent (suc n) = all_sent n ++ sent s (image n) (word n 2) (reply n) q

  abbrev pub all_got : ℕ → List ℕ
  all_got zero = []
  all_got (suc n) = all_got n ++ got s (image n) (reply n) (image (suc n)) q

-- the words that a task waits for with a service: those sent to its buffer, or those got from it, which free a slot
abbrev pub for_it : Service → List ℕ → List ℕ → List ℕ
for_it Service.Send sent got = got
for_it Service.Receive sent got = sent
for_it Service.Input sent got = sent
for_it Service.Output sent got = got

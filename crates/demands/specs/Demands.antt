-- The three demands, with requests 2, 5 and 6, in the user's order and words, of whatever any program may do that keeps the promises of the public calls:
-- the records Checks, Measures, Builds, Happens and Runs (crates/paper/specs/Promises.antt), which the contracts of crates/kernel name.
-- What stands in quotes is the user's or the paper's. All of it is proved, in proofs/Proved.antt, and nothing is assumed.
use Rattle.std.specs.Prelude.{◌≡◌, List, [], ◌∷◌, ◌++◌, Bool, true, false, not, cond, ◌≢◌, ◌↔◌, ◌⊎◌, ℕ, zero, suc, ◌+◌, ◌-◌, ◌*◌, ◌%◌, ◌<◌, ◌≤◌, eqb, length, get_or, Err, None, Ok, Result, Some}
use Rattle.paper.specs.Image.{total, shape_of, at, clock, status, busy}
use Rattle.paper.specs.Queues.{Has, held, empty, full}
use Rattle.paper.specs.Flags.{pending, is_ready, waits}
use Rattle.paper.specs.Services.{fault_of, blocked}
use Rattle.paper.specs.Events.{event_of, running, happening}
use Rattle.paper.specs.Plans.{plan_shape, fresh}
use Rattle.paper.specs.Rules.{Full, times, Good}
use Rattle.paper.specs.Tests.{rules_hold}
use Rattle.paper.specs.Numbers.{verdict_number, kind, reply_number, reply_values, too_short, not_marked, out_of_range, not_packed, wrong_segments, plan_short, plan_broken}
use Rattle.paper.specs.Calls.{size_number}
use Rattle.paper.specs.Promises.{Checks, Measures, Builds, Happens, Runs}
use Rattle.paper.specs.declared.Task.{Task}
use Rattle.paper.specs.declared.Shape.{Shape}
use Rattle.paper.specs.declared.Queue.{Queue}
use Rattle.paper.specs.declared.Service.{Service}
use Rattle.paper.specs.declared.Event.{Event}
use Rattle.paper.specs.declared.Ended.{Ended}
use Rattle.event_laws.specs.Standing.{awaits}
use Rattle.event_laws.specs.Whom.{whom, Unmoved}
use Rattle.user_laws.specs.Taken.{first_events}
use Rattle.user_laws.specs.Words.{got, leaver, all_sent, all_got, for_it}
use Rattle.user_laws.specs.Slots.{OnlyHeld}
use Rattle.user_laws.specs.Asked.{BeginsToWait}
use Rattle.bound.specs.Bound.{Behind, bound, IsFirst, Untouched, tick_count, if_accepted}
use Rattle.paper.specs.declared.Answer.{Answer}
use Rattle.paper.specs.declared.Refusal.{Refusal}

-- "NUMBERS THAT COME BACK"

-- tests in their order, each with its number and whether it shows a fault; due is the number of the first that does, and 0 where none does
abbrev pub due : List (ℕ × Bool) → ℕ
due [] = 0
due (test ∷ later) = cond test.1 test.0 (due later)

-- "Images are tested 1 to 6"
abbrev pub image_tests : List ℕ → List (ℕ × Bool)
image_tests im =
    (1, too_short im) ∷ (2, not_marked im) ∷ (3, out_of_range (shape_of im)) ∷ (4, not_packed (shape_of im)) ∷
    (5, wrong_segments (shape_of im) im) ∷ (6, not (rules_hold (shape_of im) im)) ∷ []

-- 7 "event malformed", 8 "input for a full input buffer", 9 "output done on an idle port"; of a tick there is nothing to test
abbrev pub event_tests : Shape → List ℕ → Event → List (ℕ × Bool)
event_tests s im Event.Malformed = (7, true) ∷ []
event_tests s im (Event.Input i c) = (8, full s im (Queue.Input i)) ∷ []
event_tests s im (Event.OutputDone i) = (9, eqb (at s im (busy i)) 0) ∷ []
event_tests s im Event.Tick = []

-- "Images are tested 1 to 6", then the event 7 to 9
abbrev pub call_tests : List ℕ → ℕ → ℕ → ℕ → List (ℕ × Bool)
call_tests im k d c = image_tests im ++ event_tests (shape_of im) im (event_of (shape_of im) k d c)

-- "A run checks the image and its list's length first"
abbrev pub run_tests : List ℕ → List ℕ → List (ℕ × Bool)
run_tests im events = image_tests im ++ ((7, not (eqb (length events % 3) 0)) ∷ [])

-- "A plan: under 5 words (11), then 3, then the rest of 11"
abbrev pub plan_tests : List ℕ → List (ℕ × Bool)
plan_tests plan = (11, plan_short plan) ∷ (3, out_of_range (plan_shape plan)) ∷ (11, plan_broken plan) ∷ []

-- "then 12"
abbrev pub build_tests : List ℕ → List ℕ → List (ℕ × Bool)
build_tests plan target = plan_tests plan ++ ((12, not (eqb (length target) (total (plan_shape plan)))) ∷ [])

-- DEMAND 1
-- "Every call ends and stays in its memory on ALL inputs." That is no proposition but the checker's verdict on every function, and no public one
-- requires anything; the gate, `.ci/run`, asks for it from nothing.
-- "A bad image, plan or event gets exactly the paper's refusal number and changes no word of any lent buffer.
-- A run stopped by a bad event keeps the events before it."

-- word j of event n of a list
abbrev pub word_of : List ℕ → ℕ → ℕ → ℕ
word_of events n j = get_or events (3 * n + j) 0

-- calls of event one after another, three words of a list a call: call n finds image n, gives reply n, leaves image n + 1, and keeps its promise
pub record Calls (events : List ℕ) (count : ℕ) : Type 0 where
  pub image : ℕ → List ℕ
  pub reply : ℕ → Result Answer Refusal
  pub kept : (n : ℕ) → n < count → Happens (image n) (word_of events n 0) (word_of events n 1) (word_of events n 2) (reply n) (image (suc n))

-- a run is such calls, as many as it took, all accepted, and leaves the image that they leave; a run over the first n of them takes n and leaves image n
pub record IsCalls (im events : List ℕ) (answer : Ended) (after : List ℕ) : Type 0 where
  pub calls : Calls events answer.taken
  pub starts : calls.image 0 ≡ im
  pub accepted : (n : ℕ) → n < answer.taken → reply_number (calls.reply n) ≡ 0
  pub ends : after ≡ calls.image answer.taken
  pub parts : (n : ℕ) → n ≤ answer.taken → (a : Ended) (m : List ℕ) → Runs im (first_events n events) a m
      → (a.taken ≡ n) × (verdict_number a.stop ≡ 0) × (m ≡ calls.image n)

pub record Demand1 : Type 0 where
  -- an image and a plan that are only read
  pub checks : (im : List ℕ) (number : ℕ) → Checks im number → number ≡ due (image_tests im)
  pub measures : (plan : List ℕ) (answer : Result ℕ Refusal) → Measures plan answer → size_number answer ≡ due (plan_tests plan)
  -- a target, and an image, that are written where nothing is refused
  pub builds : (plan target : List ℕ) (number : ℕ) (after : List ℕ) → Builds plan target number after
      → (number ≡ due (build_tests plan target)) × (number ≢ 0 → after ≡ target)
  pub happens : (im : List ℕ) (k d c : ℕ) (answer : Result Answer Refusal) (after : List ℕ) → Happens im k d c answer after
      → (reply_number answer ≡ due (call_tests im k d c)) × (reply_number answer ≢ 0 → after ≡ im)
  -- a run of a bad image, or over a list that is not of whole events, takes nothing
  pub runs : (im events : List ℕ) (answer : Ended) (after : List ℕ) → Runs im events answer after → due (run_tests im events) ≢ 0
      → (verdict_number answer.stop ≡ due (run_tests im events)) × (answer.taken ≡ 0) × (after ≡ im)
  -- a run stopped by an event: its image is that of the events before, and there a call on this event is refused with the run's number
  pub keeps : (im events : List ℕ) (answer : Ended) (after : List ℕ) → Runs im events answer after → due (run_tests im events) ≡ 0
      → verdict_number answer.stop ≢ 0
      → IsCalls im events answer after × (3 * answer.taken < length events) × (verdict_number answer.stop ≡
      due (call_tests after (word_of events answer.taken 0) (word_of events answer.taken 1) (word_of events answer.taken 2)))

-- DEMAND 2
-- "Nothing else is refused. A plan gives the paper's fresh image; each accepted event gives exactly the paper's image and answer, word for word.
-- A receive on an empty queue waits and delivers nothing; a sent zero arrives as a zero."

-- the rows of the table that events have, 7, 8 and 9
abbrev pub Malformed : Event → Type 0
Malformed e = e ≡ Event.Malformed

abbrev pub InputFull : Shape → List ℕ → Event → Type 0
InputFull s im e = (i : Task) × (c : ℕ) × (e ≡ Event.Input i c) × Full s im (Queue.Input i)

abbrev pub PortIdle : Shape → List ℕ → Event → Type 0
PortIdle s im e = (i : Task) × (e ≡ Event.OutputDone i) × (at s im (busy i) ≡ 0)

-- each number is given exactly where its row applies, and an event is accepted exactly where none does
pub record Exactly (s : Shape) (im : List ℕ) (e : Event) (answer : Result Answer Refusal) : Type 0 where
  pub malformed : (reply_number answer ≡ 7) ↔ Malformed e
  pub input_full : (reply_number answer ≡ 8) ↔ InputFull s im e
  pub port_idle : (reply_number answer ≡ 9) ↔ PortIdle s im e
  pub accepted : (reply_number answer ≡ 0) ↔ (¬ Malformed e × ¬ InputFull s im e × ¬ PortIdle s im e)

-- an accepted reply of a kind
abbrev pub Tells : Result Answer Refusal → ℕ → Type 0
Tells (Ok a) k = kind a ≡ k
Tells (Err r) k = ⊥

-- a tick on an image that passes the check, whose first task asks for service v with time left on the clock
pub record Asks (s : Shape) (im : List ℕ) (v : Service) (answer : Result Answer Refusal) (after : List ℕ) : Type 0 where
  pub passes : Checks im 0
  pub shape : s ≡ shape_of im
  pub some : empty s im Queue.Ready ≡ false
  pub runs : at s im clock ≢ 0
  pub asks : pending s im (running s im) ≡ waits v
  pub ticks : Happens im 0 0 0 answer after

module _ {events : List ℕ} {count : ℕ} (c : Calls events count) where
  -- the words that the first n calls put into a queue, and those that came out of it
  abbrev pub sent_in : Queue → ℕ → List ℕ
  sent_in q n = all_sent (shape_of (c.image 0)) c.image (word_of events) c.reply q n

  abbrev pub got_in : Queue → ℕ → List ℕ
  got_in q n = all_got (shape_of (c.image 0)) c.image (word_of events) c.reply q n

  -- the words that came in them for task i, which waits with service v where the calls begin
  abbrev pub came_for : Task → Service → ℕ → List ℕ
  came_for i v n = for_it v (sent_in (awaits (shape_of (c.image 0)) (c.image 0) i v) n) (got_in (awaits (shape_of (c.image 0)) (c.image 0) i v) n)

pub record Demand2 : Type 0 where
  -- an image passes exactly when it keeps every rule, and there an event is refused exactly for a fault of its own, a tick never
  pub passes : (im : List ℕ) (number : ℕ) → Checks im number → (number ≡ 0) ↔ Good (shape_of im) im
  pub refused : (im : List ℕ) (k d c : ℕ) (answer : Result Answer Refusal) (after : List ℕ) → Checks im 0 → Happens im k d c answer after
      → Exactly (shape_of im) im (event_of (shape_of im) k d c) answer
  pub every_tick : (im : List ℕ) (answer : Result Answer Refusal) (after : List ℕ) → Checks im 0 → Happens im 0 0 0 answer after → reply_number answer ≡ 0
  -- a plan without fault gives its size and the fresh image, which passes the check
  pub measured : (plan : List ℕ) (answer : Result ℕ Refusal) → Measures plan answer → due (plan_tests plan) ≡ 0 → answer ≡ Ok (total (plan_shape plan))
  pub built : (plan target : List ℕ) (number : ℕ) (after : List ℕ) → Builds plan target number after → due (build_tests plan target) ≡ 0
      → (number ≡ 0) × (after ≡ fresh plan) × Checks after 0
  -- an event without fault gives what the paper says happens, and an image that passes the check again
  pub happened : (im : List ℕ) (k d c : ℕ) (answer : Result Answer Refusal) (after : List ℕ) → Happens im k d c answer after → due (call_tests im k d c) ≡ 0
      → (answer ≡ (happening (shape_of im) im (event_of (shape_of im) k d c)).reply) ×
      (after ≡ (happening (shape_of im) im (event_of (shape_of im) k d c)).image) × Checks after 0
  -- a run with number 0 is calls on all of its events
  pub ran : (im events : List ℕ) (answer : Ended) (after : List ℕ) → Runs im events answer after → due (run_tests im events) ≡ 0
      → verdict_number answer.stop ≡ 0 → IsCalls im events answer after × (3 * answer.taken ≡ length events)
  -- a service that is not wrong waits where its buffer stops it, a receive or an input where it is empty: the answer is 4, status and peer are set,
  -- the task leaves the ready queue, and no register and no flags of any task change
  pub waiting : (s : Shape) (im : List ℕ) (v : Service) (answer : Result Answer Refusal) (after : List ℕ) → Asks s im v answer after
      → fault_of s im (running s im) v ≡ None → blocked s im (running s im) v ≡ true → Tells answer 4 × BeginsToWait s im (running s im) v after
  -- it stays so, and out of the ready queue, until a word comes for it, whatever events come
  pub stays : (events : List ℕ) (count : ℕ) (c : Calls events count) → Checks (c.image 0) 0 → (i : Task) (v : Service)
      → i.0 < (shape_of (c.image 0)).n → at (shape_of (c.image 0)) (c.image 0) (status i) ≡ waits v → (n : ℕ) → n ≤ count → came_for c i v n ≡ []
      → Unmoved (shape_of (c.image 0)) (c.image 0) (c.image n) i × (times i.0 (held (shape_of (c.image 0)) (c.image n) Queue.Ready) ≡ 0)
  -- and where its buffer does not stop it, it is done: the answer is 3
  pub done : (s : Shape) (im : List ℕ) (v : Service) (answer : Result Answer Refusal) (after : List ℕ) → Asks s im v answer after
      → fault_of s im (running s im) v ≡ None → blocked s im (running s im) v ≡ false → Tells answer 3
  -- of any calls of event, and so of a run: what a buffer held and then every word sent to it is every word got from it and then what it holds,
  -- none lost, none made up, in order, 0 among them; of output up to the port
  pub words : (events : List ℕ) (count : ℕ) (c : Calls events count) → Checks (c.image 0) 0 → (q : Queue) → Has (shape_of (c.image 0)) q → q ≢ Queue.Ready
      → (n : ℕ) → n ≤ count
      → held (shape_of (c.image 0)) (c.image 0) q ++ sent_in c q n ≡ got_in c q n ++ held (shape_of (c.image 0)) (c.image n) q

-- DEMAND 3, with the bound of request 2
-- "From an image that passes the check, slice S, c left on the clock, a ready task with k >= 1 others ahead: whatever mix of events comes, it stands
-- first no later than accepted tick (c + 1) + (k - 1)(S + 1), and until then no word of its registers or segment has changed."

-- a ready task with k others ahead, in an image that passes the check
pub record ReadyBehind (im : List ℕ) (i : Task) (k : ℕ) : Type 0 where
  pub passes : Checks im 0
  pub behind : Behind (shape_of im) im i k
  pub others : 1 ≤ k

module _ {events : List ℕ} {count : ℕ} (c : Calls events count) where
  -- how many of the first n calls were ticks, and accepted
  abbrev pub ticks_in : ℕ → ℕ
  ticks_in zero = 0
  ticks_in (suc n) = ticks_in n + if_accepted (c.reply n) (tick_count (word_of events n 0) (word_of events n 1) (word_of events n 2))

  -- after n calls task i stands first
  abbrev pub FirstAfter : Task → ℕ → Type 0
  FirstAfter i n = IsFirst (shape_of (c.image 0)) (c.image n) i

  -- and after no fewer
  abbrev pub NotBefore : Task → ℕ → Type 0
  NotBefore i n = (m : ℕ) → m < n → ¬ FirstAfter i m

  -- the bound, where the calls begin
  abbrev pub latest : ℕ → ℕ
  latest k = bound (shape_of (c.image 0)).slice (at (shape_of (c.image 0)) (c.image 0) clock) k

  pub record TurnComes (i : Task) (k : ℕ) : Type 0 where
    -- where so many ticks are accepted, it stands first no later
    pub first : latest k ≤ ticks_in count → (n : ℕ) × (n ≤ count) × (ticks_in n ≤ latest k) × FirstAfter i n × NotBefore i n
    -- however few they are, after each call up to the first after which it stands first, no word of it has changed
    pub untouched : (n : ℕ) → n ≤ count → NotBefore i n → Untouched (shape_of (c.image 0)) (c.image 0) (c.image n) i

pub record Demand3 : Type 0 where
  -- the bound
  pub formula : (S c k : ℕ) → bound S c k ≡ (c + 1) + (k - 1) * (S + 1)
  -- of any calls of event, refused ones among them
  pub in_calls : (events : List ℕ) (count : ℕ) (c : Calls events count) (i : Task) (k : ℕ) → ReadyBehind (c.image 0) i k → TurnComes c i k
  -- and of a run
  pub in_run : (im events : List ℕ) (answer : Ended) (after : List ℕ) → Runs im events answer after → due (run_tests im events) ≡ 0
      → (i : Task) (k : ℕ) → ReadyBehind im i k → (r : IsCalls im events answer after) × TurnComes r.calls i k

-- REQUEST 2
-- "Services must use up the slice. Our chattiest script gets nearly twice the ticks of its neighbours because its services ride free."

-- answered neither 1 "error stop" nor 2 "turn passed" nor 4 "service waits"
abbrev pub Quiet : Result Answer Refusal → Type 0
Quiet r = ¬ Tells r 1 × ¬ Tells r 2 × ¬ Tells r 4

module _ {events : List ℕ} {count : ℕ} (c : Calls events count) where
  -- so each call from m on, before n
  abbrev pub Undisturbed : ℕ → ℕ → Type 0
  Undisturbed m n = (j : ℕ) → m ≤ j → j < n → Quiet (c.reply j)

  -- call j was an accepted tick
  abbrev pub IsTick : ℕ → Type 0
  IsTick j = if_accepted (c.reply j) (tick_count (word_of events j 0) (word_of events j 1) (word_of events j 2)) ≡ 1

  -- call j was answered kind k of task i
  abbrev pub Answered : ℕ → ℕ → Task → Type 0
  Answered j k i = reply_values (c.reply j) ≡ k ∷ i.0 ∷ []

  -- task i is first where the calls begin, with so much left on the clock
  pub record UsesClock (i : Task) (left : ℕ) : Type 0 where
    -- till a tick is answered 1, 2 or 4 each one is its own, answered 3 to 7, and there are no more than the clock has left, the wait counted
    pub own : (n j : ℕ) → n ≤ count → Undisturbed 0 n → j < n → IsTick j → (k : ℕ) × (3 ≤ k) × (k ≤ 7) × Answered j k i
    pub at_most : (n : ℕ) → n ≤ count → Undisturbed 0 n → ticks_in c n ≤ left
    pub with_wait : (n : ℕ) → n < count → Undisturbed 0 n → Tells (c.reply n) 4 → (ticks_in c (suc n) ≤ left) × Answered n 4 i
    -- and exactly as many where that one is a 2
    pub exactly : (n : ℕ) → n < count → Undisturbed 0 n → Tells (c.reply n) 2 → (ticks_in c n ≡ left) × Answered n 2 i

  -- between one passed turn, m, and the next, n, with no 1 or 4 between: S ticks, all of one task, answered 3 or 6
  pub record UsesSlice (m n : ℕ) : Type 0 where
    pub task : Task
    pub passes : Answered n 2 task
    pub exactly : ticks_in c n ≡ ticks_in c (suc m) + (shape_of (c.image 0)).slice
    pub own : (j : ℕ) → m < j → j < n → IsTick j → Answered j 3 task ⊎ Answered j 6 task

-- of any calls of event, and so of a run, which is such calls (`IsCalls`)
pub record Request2 : Type 0 where
  pub clock_used : (events : List ℕ) (count : ℕ) (c : Calls events count) (i : Task) → Checks (c.image 0) 0
      → IsFirst (shape_of (c.image 0)) (c.image 0) i → UsesClock c i (at (shape_of (c.image 0)) (c.image 0) clock)
  pub slice_used : (events : List ℕ) (count : ℕ) (c : Calls events count) → Checks (c.image 0) 0
      → (m n : ℕ) → m < n → n < count → Tells (c.reply m) 2 → Undisturbed c (suc m) n → Tells (c.reply n) 2 → UsesSlice c m n

-- REQUEST 5
-- "Show from the rules of a good image that a wake always finds room"

pub record Request5 : Type 0 where
  -- a task that is not ready becomes so exactly where an event wakes it
  pub wakes : (im : List ℕ) (k d c : ℕ) (answer : Result Answer Refusal) (after : List ℕ) → Checks im 0 → Happens im k d c answer after → (i : Task) → i.0 < (shape_of im).n
      → at (shape_of im) im (status i) ≢ is_ready → (at (shape_of im) after (status i) ≡ is_ready) ↔ (whom (shape_of im) im (event_of (shape_of im) k d c) ≡ Some i)
  -- whom an event wakes is a task that is not in the ready queue, and of the queue's N slots one is free
  pub finds_room : (im : List ℕ) (k d c : ℕ) → Checks im 0 → (i : Task) → whom (shape_of im) im (event_of (shape_of im) k d c) ≡ Some i
      → (i.0 < (shape_of im).n) × (times i.0 (held (shape_of im) im Queue.Ready) ≡ 0) × (length (held (shape_of im) im Queue.Ready) < (shape_of im).n)

-- REQUEST 6
-- "Old words lie about in the buffers. A support dump showed a database password that a script had received hours before."

pub record Request6 : Type 0 where
  -- in an image that passes the check each word of a queue's slots that is not 0 is a word that the queue holds, of the ready queue too
  pub slots : (im : List ℕ) → Checks im 0 → (q : Queue) → Has (shape_of im) q → (w : ℕ) → w ≢ 0 → OnlyHeld (shape_of im) im q w
  -- so where an accepted event takes such a word out of a buffer, no slot of that buffer holds the word afterwards unless the buffer still does
  pub gone : (im : List ℕ) (k d c : ℕ) (answer : Result Answer Refusal) (after : List ℕ) → Checks im 0 → Happens im k d c answer after → (q : Queue) → Has (shape_of im) q
      → (w : ℕ) → got (shape_of im) im answer after q ≡ w ∷ [] → w ≢ 0 → OnlyHeld (shape_of im) after q w
  -- nor does one of the ready queue, of the task that leaves its head
  pub left : (im : List ℕ) (k d c : ℕ) (answer : Result Answer Refusal) (after : List ℕ) → Checks im 0 → Happens im k d c answer after
      → (w : ℕ) → leaver answer ≡ w ∷ [] → w ≢ 0 → OnlyHeld (shape_of im) after Queue.Ready w

-- what the user signs
pub record Demands : Type 0 where
  pub first : Demand1
  pub second : Demand2
  pub third : Demand3
  pub request_2 : Request2
  pub request_5 : Request5
  pub request_6 : Request6

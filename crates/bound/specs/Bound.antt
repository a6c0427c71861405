-- How many ticks a task in the ready queue waits for its turn at most: the bound, and what it promises.
use Rattle.std.specs.Prelude.{false, cond, List, [], ◌∷◌, ◌≡◌, ℕ, ◌+◌, ◌-◌, ◌*◌, ◌<◌, ◌≤◌, length, get_or, Err, Ok, Result}
use Rattle.paper.specs.Image.{shape_of, at, clock}
use Rattle.paper.specs.Queues.{first, held, empty}
use Rattle.paper.specs.Machines.{lies, own}
use Rattle.paper.specs.Events.{is_tick}
use Rattle.paper.specs.Numbers.{check}
use Rattle.paper.specs.declared.Task.{Task}
use Rattle.paper.specs.declared.Shape.{Shape}
use Rattle.paper.specs.declared.Queue.{Queue}
use Rattle.paper.specs.declared.Answer.{Answer}
use Rattle.paper.specs.declared.Refusal.{Refusal}

-- task i stands in the ready queue with k others ahead of it
abbrev pub Behind : Shape → List ℕ → Task → ℕ → Type 0
Behind s im i k = (k < length (held s im Queue.Ready)) × (get_or (held s im Queue.Ready) k 0 ≡ i.0)

-- how many ticks it waits at most, where S is the slice, c the clock, and k is 1 or more: (c + 1) + (k - 1)(S + 1)
abbrev pub bound : ℕ → ℕ → ℕ → ℕ
bound S c k = (c + 1) + (k - 1) * (S + 1)

-- an image of shape s passes the check, and task i stands in its ready queue with k others ahead of it, one at least
pub record InLine (s : Shape) (im : List ℕ) (i : Task) (k : ℕ) : Type 0 where
  pub checked : check im ≡ Ok tt
  pub shaped : s ≡ shape_of im
  pub behind : Behind s im i k
  pub others : 1 ≤ k

-- and the bound for it
abbrev pub most_ticks : Shape → List ℕ → ℕ → ℕ
most_ticks s im k = bound s.slice (at s im clock) k

-- a tick counts 1, any other event nothing
abbrev pub tick_count : ℕ → ℕ → ℕ → ℕ
tick_count k d c = cond (is_tick k d c) 1 0

-- how many ticks a list of events has, three words an event
abbrev pub ticks : List ℕ → ℕ
ticks [] = 0
ticks (k ∷ []) = 0
ticks (k ∷ d ∷ []) = 0
ticks (k ∷ d ∷ c ∷ later) = tick_count k d c + ticks later

-- task i is first
pub record IsFirst (s : Shape) (im : List ℕ) (i : Task) : Type 0 where
  pub some : empty s im Queue.Ready ≡ false
  pub named : first s im Queue.Ready ≡ i.0

-- no word of task i differs between im and m: its registers, its flags, its segment, which lies where it lay
pub record Untouched (s : Shape) (im m : List ℕ) (i : Task) : Type 0 where
  pub lies_kept : lies s m i ≡ lies s im i
  pub own_kept : own s m i ≡ own s im i

-- what counts of an accepted call; a refused one counts for nothing
abbrev pub if_accepted : Result Answer Refusal → ℕ → ℕ
if_accepted (Ok a) n = n
if_accepted (Err r) n = 0

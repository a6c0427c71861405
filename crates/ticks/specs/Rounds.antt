-- What a round of ticks comes to: one tick by a rule, or orders of the first task in a row.
use Rattle.std.specs.Prelude.{List, Bool, true, cond, ◌||◌, ℕ, min, eqb, leb, Option, Some, None}
use Rattle.paper.specs.Image.{at, clock, flags}
use Rattle.paper.specs.Flags.{error_of}
use Rattle.paper.specs.Events.{tick}
use Rattle.paper.specs.declared.Task.{Task}
use Rattle.paper.specs.declared.Shape.{Shape}
use Rattle.paper.specs.declared.Answer.{Answer}
use Rattle.event_laws.specs.First.{stays_first}
use Rattle.machine.specs.InRow.{row_length}
use Rattle.ticks.specs.Seated.{part_of}
use Rattle.ticks.specs.declared.Gone.{Gone}
use Rattle.ticks.specs.declared.Seat.{Seat}

-- the answer of an order, as the flags after it tell
abbrev pub by_flags : ℕ → Task → Answer
by_flags f i = cond (eqb (error_of f) 0) (Answer.OrderDone i) (Answer.OrderFaulted i)

-- the answer of what a tick came to, of the task at a seat
unfoldable pub answer_of : Shape → List ℕ → Seat → Option Answer → Answer
answer_of s im x None = by_flags (at s im (flags x.row.task)) x.row.task
answer_of s im x (Some a) = a

-- whether the first task is first still
unfoldable pub stays_of : Option Answer → Bool
stays_of None = true
stays_of (Some a) = stays_first a

-- how many ticks are taken at once: one by a rule before an order, or orders in a row for as long as the clock runs
unfoldable pub gone : Shape → List ℕ → Seat → ℕ → Gone
gone s im x most =
    cond (leb 4 (at s im (flags x.row.task)) || eqb (at s im clock) 0) (record { taken = 1; came = Some (tick s im).answer })
    (record { taken = row_length x.segment (part_of x.row.place.0 im) (min most (at s im clock)); came = None })

-- "Who used the machine last night" (request 4): the heading of an answer, the counts, a run that counts, a task's share.
use Rattle.std.specs.Prelude.{List, [], ◌∷◌, Bool, false, cond, ℕ, ◌+◌, ◌*◌, eqb, ltb, get_or, set, take, drop, Err, Float, None, Ok, Option, Result, Some, ⊤}
use Rattle.std.specs.Float.{binary64}
use Rattle.std.specs.Float.Ieee.{round}
use Rattle.paper.specs.Image.{most_tasks, shape_of}
use Rattle.paper.specs.Events.{event_of, happening}
use Rattle.paper.specs.Calls.{check_run}
use Rattle.paper.specs.declared.Task.{Task}
use Rattle.paper.specs.declared.Shape.{Shape}
use Rattle.paper.specs.declared.Event.{Event}
use Rattle.paper.specs.declared.Answer.{Answer}
use Rattle.paper.specs.declared.Refusal.{Refusal}
use Rattle.paper.specs.declared.Heading.{Heading}
use Rattle.paper.specs.declared.Tally.{Tally}

-- the heading of an answer: faults are kinds 5 and 7 together, and an event of a device is under none
abbrev pub tally : Answer → Tally
tally Answer.Idle = Tally.Idle
tally (Answer.ErrorStop i) = Tally.Under i Heading.ErrorStops
tally (Answer.TurnPassed i) = Tally.Under i Heading.PassedTurns
tally (Answer.ServiceDone i) = Tally.Under i Heading.Services
tally (Answer.ServiceWaits i) = Tally.Under i Heading.Waits
tally (Answer.ServiceFaulted i) = Tally.Under i Heading.Faults
tally (Answer.OrderDone i) = Tally.Under i Heading.Orders
tally (Answer.OrderFaulted i) = Tally.Under i Heading.Faults
tally (Answer.Input i) = Tally.Nowhere
tally (Answer.OutputDone i) = Tally.Nowhere

-- a row of six counts for each of sixteen tasks, then the idle ticks
abbrev pub headings : ℕ
headings = 6

abbrev pub idle_count : ℕ
idle_count = 96

abbrev pub all_counts : ℕ
all_counts = 97

abbrev pub column : Heading → ℕ
column Heading.Orders = 0
column Heading.Services = 1
column Heading.Waits = 2
column Heading.Faults = 3
column Heading.ErrorStops = 4
column Heading.PassedTurns = 5

abbrev pub count_place : Task → Heading → ℕ
count_place i h = headings * i.0 + column h

-- a count has grown by n
unfoldable pub grown : List ℕ → ℕ → ℕ → List ℕ
grown counts k n = set counts k (get_or counts k 0 + n)

-- an answer is counted once
abbrev pub counted : List ℕ → Tally → List ℕ
counted counts Tally.Nowhere = counts
counted counts Tally.Idle = grown counts idle_count 1
counted counts (Tally.Under i h) = grown counts (count_place i h) 1

-- counts end at 4294967295: the count of an answer would pass that
abbrev pub most_count : ℕ
most_count = 4294967295

abbrev pub at_end : List ℕ → ℕ → Bool
at_end counts k = eqb (get_or counts k 0) most_count

abbrev pub passes_end : List ℕ → Tally → Bool
passes_end counts Tally.Nowhere = false
passes_end counts Tally.Idle = at_end counts idle_count
passes_end counts (Tally.Under i h) = at_end counts (count_place i h)

-- a counted event: the reply, the image and the counts after it
pub record Counted : Type 0 where
  pub reply : Result Answer Refusal
  pub image : List ℕ
  pub counts : List ℕ

-- 17 is tested last; a refused event alters nothing
abbrev pub counting : Result Answer Refusal → List ℕ → List ℕ → List ℕ → Counted
counting (Ok a) im after counts =
    cond (passes_end counts (tally a)) (record { reply = Err Refusal.CountFull; image = im; counts = counts })
    (record { reply = Ok a; image = after; counts = counted counts (tally a) })
counting (Err r) im after counts = record { reply = Err r; image = after; counts = counts }

unfoldable pub counted_event : Shape → List ℕ → List ℕ → Event → Counted
counted_event s im counts e = counting (happening s im e).reply im (happening s im e).image counts

-- a run that counts: how many events were taken, where it stopped, the image and the counts that hold exactly those
pub record Reported : Type 0 where
  pub taken : ℕ
  pub stop : Result ⊤ Refusal
  pub image : List ℕ
  pub counts : List ℕ

abbrev pub reported_at : Result ⊤ Refusal → List ℕ → List ℕ → Reported
reported_at v im counts = record { taken = 0; stop = v; image = im; counts = counts }

abbrev pub one_reported : Reported → Reported
one_reported r = record { taken = 1 + r.taken; stop = r.stop; image = r.image; counts = r.counts }

abbrev pub reports_on : Result Answer Refusal → List ℕ → List ℕ → (List ℕ → List ℕ → Reported) → Reported
reports_on (Ok a) im counts later = one_reported (later im counts)
reports_on (Err r) im counts later = reported_at (Err r) im counts

-- counted events one after another, up to the first refused one
abbrev pub report_from : Shape → List ℕ → List ℕ → List ℕ → Reported
report_from s im counts [] = reported_at (Ok tt) im counts
report_from s im counts (k ∷ []) = reported_at (Err Refusal.MalformedEvent) im counts
report_from s im counts (k ∷ d ∷ []) = reported_at (Err Refusal.MalformedEvent) im counts
report_from s im counts (k ∷ d ∷ c ∷ events) =
    let o = counted_event s im counts (event_of s k d c) in
    reports_on o.reply o.image o.counts (λ next more. report_from s next more events)

-- the image and the list's length are checked first, as for a run; a refused one counts nothing
abbrev pub report_if : Result ⊤ Refusal → List ℕ → List ℕ → List ℕ → Reported
report_if (Ok tt) im events counts = report_from (shape_of im) im counts events
report_if (Err r) im events counts = reported_at (Err r) im counts

unfoldable pub report : List ℕ → List ℕ → List ℕ → Reported
report im events counts = report_if (check_run im events) im events counts

-- the ticks of a task: its six headings together; all counted ticks, the idle ones among them
unfoldable pub sum : List ℕ → ℕ
sum [] = 0
sum (n ∷ counts) = n + sum counts

abbrev pub task_ticks : List ℕ → ℕ → ℕ
task_ticks counts i = cond (ltb i most_tasks) (sum (take headings (drop (headings * i) counts))) 0

abbrev pub all_ticks : List ℕ → ℕ
all_ticks counts = sum counts

-- a task's share of all ticks: one division of the two counts, rounded once; no ticks at all is a word of its own
abbrev pub share_of : ℕ → ℕ → Option Float
share_of ticks all = cond (eqb all 0) None (Some (round binary64 false ticks all))

unfoldable pub share : List ℕ → ℕ → Option Float
share counts i = share_of (task_ticks counts i) (all_ticks counts)

-- "Who used the machine last night" (request 4): what the user is told of `report`, the run that counts (crates/paper/specs/Counts.antt).
-- What stands in quotes is the user's. All of it is proved, in proofs/Proved.antt, and nothing is assumed.
use Rattle.std.specs.Prelude.{◌≡◌, List, [], ◌∷◌, ◌++◌, true, cond, ◌≢◌, ◌⊎◌, ℕ, ◌+◌, ◌*◌, ◌%◌, ◌^◌, ◌<◌, ◌≤◌, eqb, length, get_or, Err, Ok, Result}
use Rattle.paper.specs.Image.{most_tasks, shape_of}
use Rattle.paper.specs.Events.{is_tick, event_of, happening}
use Rattle.paper.specs.Numbers.{check}
use Rattle.paper.specs.Calls.{Ran, check_run, run}
use Rattle.paper.specs.Counts.{tally, idle_count, all_counts, count_place, most_count, passes_end, counted_event, Reported, reported_at, report, sum}
use Rattle.paper.specs.declared.Task.{Task}
use Rattle.paper.specs.declared.Shape.{Shape}
use Rattle.paper.specs.declared.Event.{Event}
use Rattle.paper.specs.declared.Answer.{Answer}
use Rattle.paper.specs.declared.Refusal.{Refusal}
use Rattle.paper.specs.declared.Heading.{Heading}
use Rattle.paper.specs.declared.Tally.{Tally}
use Rattle.user_laws.specs.Taken.{first_events}

-- the ticks of a list of events: three words 0 are one
abbrev pub ticks_in : List ℕ → ℕ
ticks_in [] = 0
ticks_in (k ∷ []) = 0
ticks_in (k ∷ d ∷ []) = 0
ticks_in (k ∷ d ∷ c ∷ later) = cond (is_tick k d c) 1 0 + ticks_in later

-- how often an answer is counted at place k: once or not at all
abbrev pub times_at : ℕ → Tally → ℕ
times_at k Tally.Nowhere = 0
times_at k Tally.Idle = cond (eqb k idle_count) 1 0
times_at k (Tally.Under i h) = cond (eqb k (count_place i h)) 1 0

abbrev pub replied_at : ℕ → Result Answer Refusal → ℕ
replied_at k (Ok a) = times_at k (tally a)
replied_at k (Err r) = 0

-- how many events of a list are counted at place k, each on the image that those before it leave
abbrev pub counted_in : Shape → ℕ → List ℕ → List ℕ → ℕ
counted_in s k im [] = 0
counted_in s k im (x ∷ []) = 0
counted_in s k im (x ∷ y ∷ []) = 0
counted_in s k im (x ∷ y ∷ z ∷ later) =
    replied_at k (happening s im (event_of s x y z)).reply + counted_in s k (happening s im (event_of s x y z)).image later

-- the events that a report took, and how many of them are counted at place k
abbrev pub taken_events : List ℕ → List ℕ → List ℕ → List ℕ
taken_events im events counts = first_events (report im events counts).taken events

abbrev pub used_at : List ℕ → List ℕ → List ℕ → ℕ → ℕ
used_at im events counts k = counted_in (shape_of im) k im (taken_events im events counts)

-- a report without its counts; with all of its events taken; and two of them, one after the other
abbrev pub as_ran : Reported → Ran
as_ran r = record { taken = r.taken; stop = r.stop; image = r.image }

abbrev pub all_reported : Reported → Reported
all_reported r = record { taken = r.taken; stop = Ok tt; image = r.image; counts = r.counts }

abbrev pub one_and : Reported → Reported → Reported
one_and a b = record { taken = a.taken + b.taken; stop = b.stop; image = b.image; counts = b.counts }

-- 17 came: the tick after the events that were taken is accepted from the image that they leave, and its own count is at its end
pub record Full (im events counts : List ℕ) : Type 0 where
  pub some_left : 3 * (report im events counts).taken < length events
  pub rest : List ℕ
  pub next : events ≡ taken_events im events counts ++ (0 ∷ 0 ∷ 0 ∷ rest)
  pub answer : Answer
  pub accepted : (happening (shape_of im) (report im events counts).image Event.Tick).reply ≡ Ok answer
  pub at_its_end : passes_end (report im events counts).counts (tally answer) ≡ true
  -- the events before it are a run that takes them all and leaves the report's image, and a report with its image and its counts
  pub run_before : run im (taken_events im events counts) ≡ as_ran (all_reported (report im events counts))
  pub report_before : report im (taken_events im events counts) counts ≡ all_reported (report im events counts)

-- one count grew, by 1: the idle ticks, or a heading of a task; every other one, and how many there are, stayed
pub record OneMore (before after : List ℕ) : Type 0 where
  pub place : ℕ
  pub inside : place < all_counts
  pub named : (place ≡ idle_count) ⊎ ((i : Task) × (h : Heading) × (i.0 < most_tasks) × (place ≡ count_place i h))
  pub grew : get_or after place 0 ≡ get_or before place 0 + 1
  pub others : (k : ℕ) → k ≢ place → get_or after k 0 ≡ get_or before k 0
  pub as_many : length after ≡ length before

-- counts that do not pass their end
abbrev pub Bounded : List ℕ → Type 0
Bounded counts = (k : ℕ) → get_or counts k 0 ≤ most_count

pub record Used : Type 0 where
  -- where 17 does not come, it takes the events of `run`, stops where that stops and leaves its image
  pub as_run : (im events counts : List ℕ) → (report im events counts).stop ≢ Err Refusal.CountFull
      → as_ran (report im events counts) ≡ run im events
  -- where 17 comes, "the run stops before that event": it is an accepted tick, and nothing of it was done or counted
  pub full : (im events counts : List ℕ) → (report im events counts).stop ≡ Err Refusal.CountFull → Full im events counts
  -- "every accepted tick is counted under exactly one heading"
  pub under_one : (im counts : List ℕ) → check im ≡ Ok tt → length counts ≡ all_counts → (a : Answer)
      → (counted_event (shape_of im) im counts Event.Tick).reply ≡ Ok a
      → OneMore counts (counted_event (shape_of im) im counts Event.Tick).counts
  -- and an image that passes the check passes it after any events, so that this holds of each tick of a run
  pub stays_good : (im events counts : List ℕ) → check im ≡ Ok tt → check (report im events counts).image ≡ Ok tt
  -- no two headings, of one task or of two, have one count, and none has that of the idle ticks
  pub headings_apart : (i j : Task) (h g : Heading) → count_place i h ≡ count_place j g → (i.0 ≡ j.0) × (h ≡ g)
  pub idle_apart : (i : Task) (h : Heading) → i.0 < most_tasks → count_place i h ≢ idle_count
  -- an event of a device, accepted or not, is under none
  pub devices_under_none : (s : Shape) (im counts : List ℕ) (e : Event) → e ≢ Event.Tick → (counted_event s im counts e).counts ≡ counts
  -- "the headings add up to the ticks in the event lists as far as each list was taken"
  pub adds_up : (im events counts : List ℕ) → length counts ≡ all_counts
      → sum (report im events counts).counts ≡ sum counts + ticks_in (taken_events im events counts)
  -- each count after is the count before and how many of the events that were taken are counted there
  pub each_count : (im events counts : List ℕ) (k : ℕ) → k < length counts
      → get_or (report im events counts).counts k 0 ≡ get_or counts k 0 + used_at im events counts k
  -- "over many runs", of one image or of several: what each of two runs counted, together
  pub two_runs : (im events other later counts : List ℕ) (k : ℕ) → k < length counts
      → get_or (report other later (report im events counts).counts).counts k 0 ≡
      get_or counts k 0 + used_at im events counts k + used_at other later (report im events counts).counts k
  -- a list that is taken whole, and then a second one, are reported as both joined
  pub joined : (im events later counts : List ℕ) → (report im events counts).stop ≡ Ok tt → length later % 3 ≡ 0
      → report im (events ++ later) counts ≡
      one_and (report im events counts) (report (report im events counts).image later (report im events counts).counts)
  -- "counts end at 4294967295": no count passes that, the 97 stay 97, and the sum of such is below 2^39
  pub bounded : (im events counts : List ℕ) → Bounded counts → Bounded (report im events counts).counts
  pub as_many : (im events counts : List ℕ) → length (report im events counts).counts ≡ length counts
  pub sum_small : (counts : List ℕ) → length counts ≡ all_counts → Bounded counts → sum counts < 2 ^ 39
  -- a refused image or list: nothing is taken, altered or counted
  pub refused : (im events counts : List ℕ) (r : Refusal) → check_run im events ≡ Err r
      → report im events counts ≡ reported_at (Err r) im counts

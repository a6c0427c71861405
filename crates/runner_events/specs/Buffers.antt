-- A buffer of events: what is asked of it, and what is promised of it and of the file that it is a part of.
use Rattle.std.specs.Prelude.{◌≡◌, List, [], ◌++◌, ◌≢◌, ℕ, ◌+◌, ◌%◌, ◌<◌, ◌≤◌, ◌*◌, ◌/◌, length, get_or, Err, Ok, Result, ⊤}
use Rattle.paper.specs.Events.{event_of}
use Rattle.paper.specs.Runner.{word, line, Printed, printed_from}
use Rattle.paper.specs.declared.Shape.{Shape}
use Rattle.paper.specs.declared.Event.{Event}
use Rattle.paper.specs.declared.Refusal.{Refusal}
use Rattle.writes.specs.Written.{written}
use Rattle.laws.specs.Events.{Lawful}
use Rattle.runner_lines.specs.Lines.{most_line}

-- an event has six bytes
abbrev pub event_bytes : ℕ
event_bytes = 6

-- the event whose bytes start at a place
unfoldable pub event_at : Shape → List ℕ → ℕ → Event
event_at s bytes at =
    event_of s (word (get_or bytes at 0) (get_or bytes (at + 1) 0)) (word (get_or bytes (at + 2) 0) (get_or bytes (at + 3) 0))
    (word (get_or bytes (at + 4) 0) (get_or bytes (at + 5) 0))

-- a number of an event is less than this
abbrev pub number_end : ℕ
number_end = 18446744073709551616

-- bytes for a line of each event, and of a short last one
abbrev pub text_room : List ℕ → ℕ
text_room bytes = most_line * (length bytes / event_bytes + 1)

-- all of it is written: the buffer, how long the text is, how many events were taken, where it stopped, and the image after
pub record Prints (o out : List ℕ) (text taken : ℕ) (stop : Result ⊤ Refusal) (im : List ℕ) (all : Printed) : Type 0 where
  pub made : out ≡ written o 0 all.text
  pub counted : text ≡ length all.text
  pub number : taken ≡ all.taken
  pub stops : stop ≡ all.stop
  pub leaves : im ≡ all.image

-- what is promised of a short last event
pub record FeedsShort (text taken n : ℕ) (o out : List ℕ) (text' taken' : ℕ) (stop : Result ⊤ Refusal) : Type 0 where
  pub counted : text' ≡ text + length (line (n + taken) (Err Refusal.MalformedEvent))
  pub small : text' ≤ text + most_line
  pub made : out ≡ written o text (line (n + taken) (Err Refusal.MalformedEvent))
  pub same : taken' ≡ taken
  pub stopped : stop ≡ Err Refusal.MalformedEvent

-- what is promised of a buffer
pub record Feeds (s : Shape) (first : List ℕ) (n : ℕ) (bytes o im out : List ℕ) (text taken : ℕ) (stop : Result ⊤ Refusal) : Type 0 where
  pub prints : Prints o out text taken stop im (printed_from s first n bytes)
  pub good : Lawful s im
  pub fits : text ≤ length o
  pub few : event_bytes * taken ≤ length bytes

-- what is printed for one buffer, followed by what is printed for the next
abbrev pub followed : Printed → Printed → Printed
followed p q = record { text = p.text ++ q.text; taken = p.taken + q.taken; stop = q.stop; image = q.image }

-- what the lines of a buffer are for the whole file: where all of its events are accepted, the lines of the rest follow, on the image that it
-- leaves and with the numbers that follow; where one is refused, they are all
pub record Continues (s : Shape) (im : List ℕ) (n : ℕ) (bytes rest after : List ℕ) (taken : ℕ) (stop : Result ⊤ Refusal) : Type 0 where
  pub goes_on : stop ≡ Ok tt
      → printed_from s im n (bytes ++ rest) ≡ followed (printed_from s im n bytes) (printed_from s after (n + taken) rest)
  pub ends : stop ≢ Ok tt → printed_from s im n (bytes ++ rest) ≡ printed_from s im n bytes

-- the bytes of a buffer are those of whole events, or nothing follows them
abbrev pub ForAnyRest : Shape → List ℕ → ℕ → List ℕ → List ℕ → ℕ → Result ⊤ Refusal → Type 0
ForAnyRest s im n bytes after taken stop =
    (rest : List ℕ) → (length bytes % event_bytes ≢ 0 → rest ≡ []) → Continues s im n bytes rest after taken stop

-- of so many bytes, how many are those of whole events
pub record Whole (found whole : ℕ) : Type 0 where
  pub inside : whole ≤ found
  pub most : found < whole + event_bytes
  pub events : whole % event_bytes ≡ 0

-- a buffer of which some bytes were found, with room for the lines
pub record Buffered (buffer : List ℕ) (found n : ℕ) (out : List ℕ) : Type 0 where
  pub inside : found ≤ length buffer
  pub numbers : n + length buffer < number_end
  pub room : text_room buffer ≤ length out

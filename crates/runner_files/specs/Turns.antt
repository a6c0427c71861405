-- What is asked and promised of the buffers of a run. Assumes nothing.
use Rattle.std.specs.Prelude.{◌≡◌, Bool, true, List, Result, Ok, Err, ℕ, ◌+◌, ◌*◌, ◌<◌, ◌≤◌, length, get_or}
use Rattle.disk.specs.declared.Outcome.{Outcome}
use Rattle.files.specs.PlanFiles.{enough}
use Rattle.runner_lines.specs.Lines.{most_line}
use Rattle.runner_events.specs.Buffers.{event_bytes, number_end}

-- the events that are read at a time
abbrev pub most_events : ℕ
most_events = 4096

-- the buffers of events and of their lines, and numbers enough for those events
pub record Buffers (buffer text : List ℕ) (n : ℕ) : Type 0 where
  pub bytes : length buffer ≡ event_bytes * most_events
  pub lines : length text ≡ most_line * (most_events + 1)
  pub numbers : n + length buffer < number_end

-- a buffer of so many bytes holds those that are kept and those that are read
abbrev pub Holds : ℕ → ℕ → Result ℕ Outcome → Type 0
Holds most kept (Ok more) = kept + more ≤ most
Holds most kept (Err outcome) = Unit {0}

-- so many bytes from a place on are moved to the start of a buffer, and the bytes past them stay
pub record Moved (before after : List ℕ) (from count : ℕ) : Type 0 where
  pub long : length after ≡ length before
  pub moved : (j : ℕ) → j < count → get_or after j 0 ≡ get_or before (from + j) 0
  pub kept : (j : ℕ) → count ≤ j → get_or after j 0 ≡ get_or before j 0

-- no more events are taken than are read at a time
abbrev pub Tooks : Result ℕ Outcome → Type 0
Tooks (Ok k) = k ≤ most_events
Tooks (Err outcome) = Unit {0}

-- and less than an event is kept
abbrev pub Turns : Result (ℕ × ℕ) Outcome → Type 0
Turns (Ok turn) = (turn.0 ≤ most_events) × (turn.1 < event_bytes)
Turns (Err outcome) = Unit {0}

-- a buffer for a plan's file, of which so many bytes were found
pub record LoadedPlan (buffer : List ℕ) (found : ℕ) (odd : Bool) : Type 0 where
  pub bytes : length buffer ≡ enough
  pub inside : found ≤ length buffer
  pub full : odd ≡ true → length buffer ≤ found

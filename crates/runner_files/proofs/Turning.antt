-- Laws of the buffers of a run. Assumes nothing.
use Rattle.std.specs.Prelude.{Result, ⊤}
use mathlib.Core.Path.{◌≡◌, ap, ◌∙◌}
use mathlib.Core.List.{List}
use Prim.Native.Nat.{ℕ, ◌+◌, ◌-◌, ◌*◌, ◌≤◌}
use native.Mathlib.Omega.{arith}
use lib.ListN.{length, take, get_or}
use lib.Seq.{length-take-le}
use Rattle.paper.specs.declared.Shape.{Shape}
use Rattle.disk.specs.Bytes.{Starts}
use Rattle.std.specs.Prelude.{Option, Some}
use Rattle.std.specs.List.{CopiedTo, SameBelow, SameFrom}
use Rattle.disk.specs.declared.reading.Start.{Start}
use Rattle.disk.proofs.Bytes.{started_end, started_full}
use Rattle.files.specs.PlanFiles.{enough}
use Rattle.runner_events.specs.Buffers.{event_bytes, Feeds, Buffered}
use Rattle.runner_files.specs.Turns.{most_events, Buffers, Moved, LoadedPlan}
use Rattle.paper.specs.declared.Refusal.{Refusal}

-- the buffers serve the bytes that are found
module _ (buffer text : List ℕ) (n end : ℕ) (b : Buffers buffer text n) (h : end ≤ length buffer) where
  pub served : Buffered buffer end n text
  served =
      record {
        inside = h;
        numbers = b.numbers;
        room = omega (arith, b.bytes, b.lines);
      }

  -- and no more events are taken than there are
  module _ (s : Shape) (first im out : List ℕ) (t taken : ℕ) (stop : Result ⊤ Refusal) (f : Feeds s first n (take end buffer) text im out t taken stop) where
    pub taken_inside : event_bytes * taken ≤ end
    taken_inside = omega (arith, f.few, length-take-le end buffer h)

    pub taken_few : taken ≤ most_events
    taken_few = omega (arith, taken_inside, b.bytes)

-- buffers that keep their lengths serve again
pub serve_again : (buffer buffer' text text' : List ℕ) (n : ℕ) → length buffer' ≡ length buffer → length text' ≡ length text → Buffers buffer text n
    → Buffers buffer' text' n
serve_again buffer buffer' text text' n eb et b =
    record { bytes = eb ∙ b.bytes; lines = et ∙ b.lines; numbers = rw eb b.numbers }

-- the start of a plan's file
pub plan_loaded : (b : List ℕ) (r : Option Start) (s : Start) → length b ≡ enough → r ≡ Some s → Starts b r → LoadedPlan b s.bytes s.odd
plan_loaded b r s l e h = record { bytes = l; inside = started_end b r s e h; full = started_full b r s e h }

-- bytes that are copied to the start
pub bytes_moved : (o b : List ℕ) (from to : ℕ) → length b ≡ length o
    → CopiedTo o b from 0 (to - from) × SameBelow o b 0 × SameFrom o b (0 + (to - from)) → Moved o b from (to - from)
bytes_moved o b from to l m =
    record {
      long = l;
      moved = λ j h.
          let same : from + (j - 0) ≡ from + j = omega arith in
          m.0 j 0 (omega arith) (omega (arith, h)) ∙ ap (λ i. get_or o i 0) same;
      kept = λ j h. m.2 j 0 (omega (arith, h));
    }

-- What the functions of counts come to. Assumes nothing.
use mathlib.Core.Path.{◌≡◌, refl, sym}
use mathlib.Core.List.{List}
use mathlib.Core.Bool.{Bool, true, false}
use Prim.Native.Nat.{ℕ, ◌+◌, ◌-◌, ◌<◌, ◌≤◌}
use native.Mathlib.Omega.{arith}
use borrow.Author.Tests.{eqb-false, leb-true}
use lib.Dec.{leb}
use lib.ListN.{length, get_or}
use denote.Enum.Declared.{tag_of}
use Rattle.std.specs.Prelude.{Some}
use Rattle.paper.specs.contracts.Heading.{the_type}
use Rattle.paper.specs.Counts.{column, count_place, idle_count, grown, most_count, at_end, passes_end}
use Rattle.paper.specs.declared.Heading.{Heading}
use Rattle.paper.specs.declared.Tally.{Tally}
use Rattle.counting.specs.Room.{RoomAt, Room, RoomIf, AllUpto, tally_place}
use Rattle.counting.specs.Growing.{grown_out}

-- a count that is not there stays as it is
pub out_same : (counts : List ℕ) (k n : ℕ) → length counts ≤ k → counts ≡ grown counts k n
out_same counts k n h = sym (grown_out counts k n h)

-- counts that fit their type: one that is not at its end has room for 1
pub open_room : (counts : List ℕ) (k : ℕ) → get_or counts k 0 ≤ most_count → at_end counts k ≡ false → RoomAt counts k 1
unfolding RoomAt
open_room counts k h e there = omega (arith, eqb-false (get_or counts k 0) most_count e)

-- an answer's count that is not at its end has room for 1
pub open_place : (counts : List ℕ) (t : Tally) (k : ℕ) → passes_end counts t ≡ false → Some k ≡ tally_place t → get_or counts k 0 ≤ most_count
    → RoomAt counts k 1
open_place counts Tally.Nowhere k o e h = cc
open_place counts Tally.Idle k o e h = let z : k ≡ idle_count = cc in open_room counts k h (rw z o)
open_place counts (Tally.Under i g) k o e h = let z : k ≡ count_place i g = cc in open_room counts k h (rw z o)

-- a heading's column is its place among the headings
pub column_tag : (h : Heading) → tag_of the_type h ≡ column h
column_tag Heading.Orders = refl
column_tag Heading.Services = refl
column_tag Heading.Waits = refl
column_tag Heading.Faults = refl
column_tag Heading.ErrorStops = refl
column_tag Heading.PassedTurns = refl

-- room at a place that is there, as a sum
pub room_fits : (counts : List ℕ) (k n : ℕ) → RoomAt counts k n → k < length counts → get_or counts k 0 + n ≤ most_count
unfolding RoomAt
room_fits counts k n h there = h there

-- counts have room for as many as their greatest has
roomy : (counts : List ℕ) (m n : ℕ) → AllUpto counts m → m + n ≤ most_count → Room counts n
unfolding AllUpto Room RoomAt
roomy counts m n h l k there = omega (arith, h k there)

pub upto_room : (counts : List ℕ) (m n : ℕ) → AllUpto counts m → m ≤ most_count → RoomIf (leb n (most_count - m)) counts n
unfolding RoomIf
upto_room counts m n h l = go (leb n (most_count - m)) refl
  where
    go : (b : Bool) → leb n (most_count - m) ≡ b → RoomIf b counts n
    go true e = roomy counts m n h (omega (arith, leb-true n (most_count - m) e))
    go false e = tt

-- What the functions that note come to. Assumes nothing.
use mathlib.Core.Path.{◌≡◌}
use mathlib.Core.List.{List}
use mathlib.Core.Bool.{Bool, true, false}
use mathlib.Core.Logic.{◌≢◌}
use Prim.Native.Nat.{ℕ, ◌+◌, ◌-◌, ◌<◌}
use native.Mathlib.Omega.{arith}
use lib.ListN.{length}
use Rattle.paper.specs.Image.{most_tasks}
use Rattle.paper.specs.Numbers.{answer_task}
use Rattle.std.specs.Prelude.{Some}
use Rattle.paper.specs.Counts.{tally, idle_count, column, all_counts, count_place, grown}
use Rattle.paper.specs.declared.Tally.{Tally}
use Rattle.paper.specs.declared.Task.{Task}
use Rattle.paper.specs.declared.Heading.{Heading}
use Rattle.paper.specs.declared.Answer.{Answer}
use Rattle.counting.specs.Room.{Room, tally_place}
use Rattle.counting.specs.Growing.{columns, grown_length, room_less, room_grown}
use Rattle.noting.specs.Noted.{orders_counted, Ledger}
use Rattle.noting.specs.Ledgers.{ledger_kept, row_place}

-- where there are counts, each of them is there
pub ledger_there : (counts : List ℕ) → Ledger counts → length counts ≢ 0 → (k : ℕ) → k < all_counts → k < length counts
unfolding Ledger
ledger_there counts l ne k h = omega (arith, l ne)

pub ledger_as : (counts some : List ℕ) (k n : ℕ) → Ledger counts → some ≡ grown counts k n → Ledger some
ledger_as counts some k n l e = rw e (ledger_kept counts (grown counts k n) l (grown_length counts k n))

-- the place where an answer is counted is one of all
within_row : (i : Task) (h : Heading) (k : ℕ) → Some k ≡ Some (count_place i h) → i.0 < most_tasks → k < all_counts
within_row i h k e low = let z : k ≡ count_place i h = cc in row_place i (column h) k z (columns h) low

pub tally_within : (a : Answer) (t : Tally) (k : ℕ) → answer_task a < most_tasks → t ≡ tally a → Some k ≡ tally_place t → k < all_counts
tally_within Answer.Idle t k low et e = let z : k ≡ idle_count = let p = rw et at e in cc in omega arith
tally_within (Answer.ErrorStop i) t k low et e = within_row i Heading.ErrorStops k (rw et at e) low
tally_within (Answer.TurnPassed i) t k low et e = within_row i Heading.PassedTurns k (rw et at e) low
tally_within (Answer.ServiceDone i) t k low et e = within_row i Heading.Services k (rw et at e) low
tally_within (Answer.ServiceWaits i) t k low et e = within_row i Heading.Waits k (rw et at e) low
tally_within (Answer.ServiceFaulted i) t k low et e = within_row i Heading.Faults k (rw et at e) low
tally_within (Answer.OrderDone i) t k low et e = within_row i Heading.Orders k (rw et at e) low
tally_within (Answer.OrderFaulted i) t k low et e = within_row i Heading.Faults k (rw et at e) low
tally_within (Answer.Input i) t k low et e = let p = rw et at e in cc
tally_within (Answer.OutputDone i) t k low et e = let p = rw et at e in cc

-- orders in a row are noted
module _ (counts : List ℕ) (i : Task) (n : ℕ) where
  pub row_faulted : (b : Bool) → b ≡ true → (some out : List ℕ) (k j : ℕ) → k ≡ count_place i Heading.Orders → j ≡ count_place i Heading.Faults
      → some ≡ grown counts k (n - 1) → out ≡ grown some j 1 → out ≡ orders_counted counts i n b
  unfolding orders_counted
  row_faulted b eb some out k j ek ej es eo = rw (eb, ← ek, ← ej, ← es) eo

  pub row_fine : (b : Bool) → b ≡ false → (out : List ℕ) (k : ℕ) → k ≡ count_place i Heading.Orders → out ≡ grown counts k n → out ≡ orders_counted counts i n b
  unfolding orders_counted
  row_fine b eb out k ek eo = rw (eb, ← ek) eo

pub room_last : (counts some : List ℕ) (n k : ℕ) → Room counts n → 0 < n → some ≡ grown counts k (n - 1) → Room some 1
room_last counts some n k h l e = rw e (room_grown counts (n - 1) 1 (room_less counts (n - 1 + 1) n h (omega arith)) k)

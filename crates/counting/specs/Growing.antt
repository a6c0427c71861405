-- Laws of counts that grow and of their room. Assumes nothing.
use Rattle.std.specs.Prelude.{◌≡◌, refl, List, [], ◌∷◌, false, ◌≢◌, ℕ, suc, ◌+◌, ◌*◌, ◌<◌, ◌≤◌, length, get_or}
use Rattle.std.proofs.Math.Logic.{dite}
use Rattle.std.proofs.Math.Decide.{ℕ_discrete, dec_lt}
use Rattle.std.proofs.Common.{arith, ne_eqb, length-set, get_or-set_same, get_or-set_other, set-set}
use Rattle.std.proofs.Math.ListN.{get_or-eq_default}
use Rattle.std.proofs.lemmas.List.{set-get_or}
use Rattle.std.proofs.Math.Seq.{set_out}
use Rattle.paper.specs.Image.{most_tasks}
use Rattle.paper.specs.Counts.{headings, idle_count, column, count_place, grown, counted, most_count, at_end, passes_end, sum}
use Rattle.paper.specs.declared.Task.{Task}
use Rattle.paper.specs.declared.Heading.{Heading}
use Rattle.paper.specs.declared.Tally.{Tally}
use Rattle.counting.specs.Room.{RoomAt, Room}

-- a heading is one of six, and a task's counts come before the idle ticks
pub columns : (h : Heading) → column h < headings
columns Heading.Orders = omega arith
columns Heading.Services = omega arith
columns Heading.Waits = omega arith
columns Heading.Faults = omega arith
columns Heading.ErrorStops = omega arith
columns Heading.PassedTurns = omega arith

pub before_idle : (i : Task) (h : Heading) → i.0 < most_tasks → count_place i h < idle_count
before_idle i h l = omega (arith, columns h)

-- a count that has grown, the others, and how many there are
pub grown_length : (counts : List ℕ) (k n : ℕ) → length (grown counts k n) ≡ length counts
unfolding grown
grown_length counts k n = length-set counts k (get_or counts k 0 + n)

pub grown_at : (counts : List ℕ) (k n : ℕ) → k < length counts → get_or (grown counts k n) k 0 ≡ get_or counts k 0 + n
unfolding grown
grown_at counts k n h = get_or-set_same counts k (get_or counts k 0 + n) 0 h

pub grown_other : (counts : List ℕ) (k n j : ℕ) → j ≢ k → get_or (grown counts k n) j 0 ≡ get_or counts j 0
unfolding grown
grown_other counts k n j ne = get_or-set_other counts k j (get_or counts k 0 + n) 0 ne

-- one that is not there stays so
pub grown_out : (counts : List ℕ) (k n : ℕ) → length counts ≤ k → grown counts k n ≡ counts
unfolding grown
grown_out counts k n h = set_out counts k (get_or counts k 0 + n) h

-- growing by nothing, twice at one place, and at two places
pub grown_none : (counts : List ℕ) (k : ℕ) → grown counts k 0 ≡ counts
unfolding grown
grown_none counts k =
    let none : get_or counts k 0 + 0 ≡ get_or counts k 0 = omega arith in
    rw none (set-get_or counts k 0)

twice_there : (counts : List ℕ) (k m n : ℕ) → k < length counts → grown (grown counts k m) k n ≡ grown counts k (m + n)
unfolding grown
twice_there counts k m n h =
    let both : get_or counts k 0 + m + n ≡ get_or counts k 0 + (m + n) = omega arith in
    rw (get_or-set_same counts k (get_or counts k 0 + m) 0 h, set-set counts k, both)

pub grown_twice : (counts : List ℕ) (k m n : ℕ) → grown (grown counts k m) k n ≡ grown counts k (m + n)
grown_twice counts k m n =
    dite (dec_lt k (length counts)) (twice_there counts k m n)
    (λ (h : ¬ (k < length counts)).
    let out : length counts ≤ k = omega (arith, h) in
    rw (grown_out counts k m out, grown_out counts k n out, grown_out counts k (m + n) out))

-- room for so many ticks is room at each place, and room for fewer
pub room_at : (counts : List ℕ) (n : ℕ) → Room counts n → (k : ℕ) → RoomAt counts k n
unfolding Room
room_at counts n h k = h k

pub room_less : (counts : List ℕ) (m n : ℕ) → Room counts n → m ≤ n → Room counts m
unfolding Room RoomAt
room_less counts m n h l k there = omega (arith, h k there)

-- what is left of it where a count has grown
pub room_grown : (counts : List ℕ) (m n : ℕ) → Room counts (m + n) → (k : ℕ) → Room (grown counts k m) n
unfolding Room RoomAt
room_grown counts m n h k j there =
    let inside : j < length counts = omega (arith, grown_length counts k m, there) in
    dite (ℕ_discrete j k)
    (λ e. rw e (omega (arith, grown_at counts k m (rw e at inside), h k (rw e at inside))))
    (λ ne. omega (arith, grown_other counts k m j ne, h j inside))

-- where there are none, nothing is asked of them
pub none_room : (counts : List ℕ) → length counts ≡ 0 → (n : ℕ) → Room counts n
unfolding Room RoomAt
none_room counts none n k there = absurd (omega (arith, none, there))

-- an answer that is counted: as many counts, and room for one tick less
pub counted_length : (counts : List ℕ) (t : Tally) → length (counted counts t) ≡ length counts
counted_length counts Tally.Nowhere = refl
counted_length counts Tally.Idle = grown_length counts idle_count 1
counted_length counts (Tally.Under i h) = grown_length counts (count_place i h) 1

pub counted_room : (counts : List ℕ) (n : ℕ) → Room counts (1 + n) → (t : Tally) → Room (counted counts t) n
counted_room counts n h Tally.Nowhere = room_less counts n (1 + n) h (omega arith)
counted_room counts n h Tally.Idle = room_grown counts 1 n h idle_count
counted_room counts n h (Tally.Under i g) = room_grown counts 1 n h (count_place i g)

-- where there is room for one, no answer's count passes its end
open_at : (counts : List ℕ) (n : ℕ) → Room counts n → 1 ≤ n → (k : ℕ) → at_end counts k ≡ false
unfolding Room RoomAt
open_at counts n h l k =
    ne_eqb _ _ (dite (dec_lt k (length counts)) (λ (i : k < length counts). λ (e : get_or counts k 0 ≡ most_count). omega (arith, h k i, e))
    (λ (i : ¬ (k < length counts)). λ (e : get_or counts k 0 ≡ most_count).
    let z : get_or counts k 0 ≡ 0 = get_or-eq_default counts 0 (omega (arith, i)) in
    omega (arith, z, e)))

pub room_open : (counts : List ℕ) (n : ℕ) → Room counts n → 1 ≤ n → (t : Tally) → passes_end counts t ≡ false
room_open counts n h l Tally.Nowhere = refl
room_open counts n h l Tally.Idle = open_at counts n h l idle_count
room_open counts n h l (Tally.Under i g) = open_at counts n h l (count_place i g)

-- the sum of counts that do not pass their end
pub sum_bounded : (counts : List ℕ) → ((k : ℕ) → get_or counts k 0 ≤ most_count) → sum counts ≤ length counts * most_count
unfolding sum
sum_bounded [] b = omega arith
sum_bounded (x ∷ later) b = omega (arith, b 0, sum_bounded later (λ k. b (suc k)))

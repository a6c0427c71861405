-- Four words as one number; numbers with the bits of many words together, or of those whose marks differ.
use Rattle.std.specs.Prelude.{◌≡◌, List, ◌≢◌, ◌↔◌, ◌⊎◌, ℕ, ◌+◌, ◌*◌, ◌^◌, ◌<◌, ◌≤◌, length, get_or}
use Rattle.paper.specs.Image.{most_capacity}

-- the first word is the lowest
abbrev pub lanes : ℕ → ℕ → ℕ → ℕ → ℕ
lanes a b c d = a + 65536 * (b + 65536 * (c + 65536 * d))

-- four words of a list from a place on
abbrev pub four_at : List ℕ → ℕ → ℕ
four_at l at = lanes (get_or l at 0) (get_or l (at + 1) 0) (get_or l (at + 2) 0) (get_or l (at + 3) 0)

-- a number of four words has the bits of n words of a list from a place on, and no others
pub record Gathers (l : List ℕ) (at n r : ℕ) : Type 0 where
  pub a : ℕ
  pub b : ℕ
  pub c : ℕ
  pub d : ℕ
  pub same : r ≡ lanes a b c d
  -- where its four are at most m, so are the words
  pub over : (m : ℕ) → a ≤ m → b ≤ m → c ≤ m → d ≤ m → (k : ℕ) → k < n → get_or l (at + k) 0 ≤ m
  -- and its four have no more digits than the words
  pub under : (j : ℕ) → ((k : ℕ) → k < n → get_or l (at + k) 0 < 2 ^ j) → (a < 2 ^ j) × (b < 2 ^ j) × (c < 2 ^ j) × (d < 2 ^ j)

-- the words of a list from one place up to another are 0
unfoldable pub Clear : List ℕ → ℕ → ℕ → Type 0
Clear l from end = (k : ℕ) → from ≤ k → k < end → get_or l k 0 ≡ 0

-- a mark has all bits or none
abbrev pub AllOrNone : List ℕ → Type 0
AllOrNone marks = (k : ℕ) → (get_or marks k 0 ≡ 0) ⊎ (get_or marks k 0 ≡ 65535)

-- a number is 0 just where each of n words is whose two marks, from a and from b on, differ
unfoldable pub Sieves : List ℕ → ℕ → List ℕ → ℕ → ℕ → ℕ → ℕ → Type 0
Sieves l at marks a b n r = (r ≡ 0) ↔ ((k : ℕ) → k < n → get_or marks (a + k) 0 ≢ get_or marks (b + k) 0 → get_or l (at + k) 0 ≡ 0)

-- so many places from one on are marked, the others are as they were
pub record MarkedFrom (before : List ℕ) (from n : ℕ) (after : List ℕ) : Type 0 where
  pub long : length after ≡ length before
  pub marked : (k : ℕ) → from ≤ k → k < from + n → get_or after k 0 ≡ 65535
  pub others : (k : ℕ) → (from ≤ k → from + n ≤ k) → get_or after k 0 ≡ get_or before k 0

-- the marks of queues of a capacity: those of its slots are unmarked, as many as a queue may have before them and after them are marked
pub record Marks (marks : List ℕ) (given : ℕ) : Type 0 where
  pub before : (k : ℕ) → k < most_capacity → get_or marks k 0 ≡ 65535
  pub slots : (k : ℕ) → most_capacity ≤ k → k < most_capacity + given → get_or marks k 0 ≡ 0
  pub after : (k : ℕ) → most_capacity + given ≤ k → k < most_capacity + given + most_capacity → get_or marks k 0 ≡ 65535
  pub all : AllOrNone marks

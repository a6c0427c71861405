-- The segment of a task: its places are cells of the segments, apart from all tables and from every other task's. Assumes nothing.
use Rattle.std.specs.Prelude.{◌≡◌, List, ◌≢◌, ℕ, suc, ◌+◌, ◌-◌, ◌<◌, ◌≤◌, T, ltb}
use native.Mathlib.Omega.{arith}
use Rattle.std.proofs.Common.{ltb→lt}
use Rattle.paper.specs.Image.{ord, start, total, cell, Valid, place, at, base, len, segment_start}
use Rattle.paper.specs.Rules.{Laid}
use Rattle.paper.specs.declared.Task.{Task}
use Rattle.paper.specs.declared.Place.{Place}
use Rattle.paper.specs.declared.Shape.{Shape}
use Rattle.paper.specs.declared.Cell.{Cell}
use Rattle.paper.specs.declared.Part.{Part}
use Rattle.laws.specs.Places.{before_part}
use Rattle.laws.specs.Consecutive.{rising}

-- a place of the segment of task i
abbrev pub InSegment : Shape → List ℕ → Task → Place → Type 0
InSegment s im i p = (at s im (base i) ≤ p.0) × (p.0 < at s im (base i) + at s im (len i))

-- the cell of a place among the segments
abbrev pub segment_cell : Shape → Place → Cell
segment_cell s p = cell Part.Segments 0 (p.0 - start s Part.Segments)

pub starts_later : (s : Shape) (im : List ℕ) (a b : ℕ) → a ≤ b → segment_start s im a ≤ segment_start s im b
starts_later s im a b h = rising (segment_start s im) (λ k. omega arith) a b h

module _ (s : Shape) (im : List ℕ) (laid : Laid s im) where
  -- the segment of a task lies between the tables and T
  pub segment_from : (i : Task) → i.0 < s.n → start s Part.Segments ≤ at s im (base i)
  segment_from i hi = omega (arith, laid.bases i hi, starts_later s im 0 i.0 (omega arith))

  pub segment_upto : (i : Task) → i.0 < s.n → at s im (base i) + at s im (len i) ≤ total s
  segment_upto i hi = omega (arith, laid.bases i hi, starts_later s im (suc i.0) s.n hi, laid.ends)

  -- an earlier task's segment ends before a later one's begins
  segment_before : (i j : Task) → i.0 < j.0 → j.0 < s.n → at s im (base i) + at s im (len i) ≤ at s im (base j)
  segment_before i j h hj =
      omega (arith, laid.bases i (omega arith), laid.bases j hj, starts_later s im (suc i.0) j.0 h)

  module _ (i : Task) (hi : i.0 < s.n) (p : Place) (inside : InSegment s im i p) where
    -- it is a cell of the segments
    pub segment_valid : Valid s (segment_cell s p)
    unfolding total
    segment_valid = (omega arith, omega (arith, inside, segment_from i hi, segment_upto i hi))

    pub segment_place : (place s (segment_cell s p)).0 ≡ p.0
    unfolding place
    segment_place = omega (arith, inside, segment_from i hi)

    -- it lies apart from all tables
    pub past_tables : (c : Cell) → Valid s c → T (ltb (ord c.part) 9) → (place s c).0 < p.0
    past_tables c hc t = omega (arith, before_part s c (segment_cell s p) hc (ltb→lt (ord c.part) 9 t), segment_place)

    -- and from every other task's segment
    pub segments_apart : (j : Task) → j.0 < s.n → j.0 ≢ i.0 → (q : Place) → InSegment s im j q → p.0 ≢ q.0
    segments_apart j hj ne q there z =
        let before : ¬ (i.0 < j.0) = λ h. omega (arith, inside, there, segment_before i j h hj) in
        let after : ¬ (j.0 < i.0) = λ h. omega (arith, inside, there, segment_before j i h hi) in
        omega arith

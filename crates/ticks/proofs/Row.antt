-- Orders of one task in a row, what they leave as it was, and that in the part which is lent they are the same. Assumes nothing.
use mathlib.Core.Path.{◌≡◌, refl, sym, ap, ◌∙◌}
use mathlib.Core.List.{List, ◌++◌}
use mathlib.Core.Bool.{not}
use Prim.Native.Nat.{ℕ, zero, suc, ◌+◌, ◌-◌, ◌<◌}
use native.Mathlib.Omega.{arith}
use lib.Dec.{T, eqb}
use lib.ListN.{length, get_or}
use lib.Seq.{get_or-append-add}
use Rattle.paper.specs.Image.{lead, ord, cell, Valid, place, at, reg, flags}
use Rattle.paper.specs.Queues.{head, first, empty}
use Rattle.paper.specs.Machines.{Machine, Lies, machine, put_back, lies}
use Rattle.paper.specs.Orders.{decided, after, order, after_order}
use Rattle.paper.specs.declared.Task.{Task}
use Rattle.paper.specs.declared.Shape.{Shape}
use Rattle.paper.specs.declared.Cell.{Cell}
use Rattle.paper.specs.declared.Part.{Part}
use Rattle.paper.specs.declared.Queue.{Queue}
use Rattle.own.specs.Machines.{machine_flags, past_others, machine_after, put_after}
use Rattle.laws.specs.Sound.{Sound, sound}
use Rattle.laws.specs.Queues.{word_valid}
use Rattle.laws.specs.Orders.{order_keeps, not_own, keeps_sound, own_flags}
use Rattle.laws.specs.Agree.{lies_same}
use Rattle.effects.specs.Parts.{lies_of, part_ordered}
use Rattle.machine.specs.InRow.{part_after}
use Rattle.effects.specs.declared.Segment.{Segment}

-- the image after k orders of task i, the clock as it was
abbrev pub in_a_row : Shape → List ℕ → Task → ℕ → List ℕ
in_a_row s im i zero = im
in_a_row s im i (suc k) = after_order s (in_a_row s im i k) i (order s (in_a_row s im i k) i)

module _ (s : Shape) (im : List ℕ) (i : Task) (h : Sound s im) (hi : i.0 < s.n) where
  -- the image stays sound
  pub row_sound : (k : ℕ) → Sound s (in_a_row s im i k)
  row_sound zero = h
  row_sound (suc k) =
      let m = in_a_row s im i k in
      let o = row_sound k in
      keeps_sound s m i _ o (order_keeps s m i hi (sound o).laid)

  -- a cell of any part but the task table and the segments is as it was
  row_kept : (k : ℕ) (c : Cell) → Valid s c → T (not (eqb (ord c.part) 1)) → T (not (eqb (ord c.part) 9))
      → at s (in_a_row s im i k) c ≡ at s im c
  row_kept zero c hc t g = refl
  row_kept (suc k) c hc t g =
      let m = in_a_row s im i k in
      (order_keeps s m i hi (sound (row_sound k)).laid).others c hc (not_own s m i c t g) ∙ row_kept k c hc t g

  -- the segment table is as it was, and so the task's words lie where they lay
  pub row_table : (k c : ℕ) → c < 2 → at s (in_a_row s im i k) (cell Part.SegmentTable i.0 c) ≡ at s im (cell Part.SegmentTable i.0 c)
  row_table k c hc = row_kept k _ (hi, hc) tt tt

  row_lies : (k : ℕ) → lies s (in_a_row s im i k) i ≡ lies s im i
  row_lies k = lies_same s im (in_a_row s im i k) i (row_table k 0 (omega arith)) (row_table k 1 (omega arith))

  -- a word of the ready queue is as it was
  ready_word : (k j : ℕ) → j < lead + s.n → at s (in_a_row s im i k) (cell Part.ReadyQueue 0 j) ≡ at s im (cell Part.ReadyQueue 0 j)
  ready_word k j hj = row_kept k _ (word_valid s Queue.Ready j tt hj) tt tt

  -- the ready queue is empty or not as before
  pub row_empty : (k : ℕ) → empty s (in_a_row s im i k) Queue.Ready ≡ empty s im Queue.Ready
  unfolding empty
  row_empty k = rw (ready_word k 2 (omega arith))

  -- and its first task is the same
  pub row_first : (k : ℕ) → first s (in_a_row s im i k) Queue.Ready ≡ first s im Queue.Ready
  unfolding first
  row_first k =
      let q = (sound h).queues Queue.Ready tt in
      rw (ready_word k 0 (omega arith)) (ready_word k (lead + at s im (head s Queue.Ready)) (omega (arith, q.headed, q.sized)))

  -- an order where a machine's words lie
  abbrev step : Lies → List ℕ → List ℕ
  step g l = put_back g l (after (machine g l) (decided (machine g l)))

  -- words before the part do not matter to it
  step_after : (xs l : List ℕ) (g : Segment) → step (past_others xs g.from (g.to - g.from)) (xs ++ l) ≡ xs ++ part_ordered g l
  unfolding part_ordered
  step_after xs l g =
      let n = g.to - g.from in
      ap (λ (m : Machine). put_back (past_others xs g.from n) (xs ++ l) (after m (decided m))) (machine_after xs l g.from n) ∙
      put_after xs l g.from n (after (machine (lies_of g) l) (decided (machine (lies_of g) l)))

  -- the part from the task's row on, and where its segment lies there
  module _ (g : Segment) (xs l : List ℕ) (joined : xs ++ l ≡ im) (there : lies s im i ≡ past_others xs g.from (g.to - g.from)) where
    -- orders in a row in the part are orders in a row of the image
    pub row_part : (k : ℕ) → in_a_row s im i k ≡ xs ++ part_after g l k
    row_part zero = sym joined
    row_part (suc k) =
        ap (λ (f : Lies). step f (in_a_row s im i k)) (row_lies k ∙ there) ∙
        ap (step (past_others xs g.from (g.to - g.from))) (row_part k) ∙ step_after xs (part_after g l k) g

    -- and the flags stand in its ninth word
    pub row_flags : (k : ℕ) → at s (in_a_row s im i k) (flags i) ≡ get_or (part_after g l k) 8 0
    row_flags k =
        let m = in_a_row s im i k in
        let r : (place s (reg i 0)).0 ≡ length xs = ap (λ (f : Lies). f.row) there in
        own_flags s m i ∙ machine_flags (lies s m i) m ∙ rw (r, row_part k) (get_or-append-add xs (part_after g l k) 8 0)

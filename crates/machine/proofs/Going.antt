-- Orders in a row, one after another, R0 in hand between them. Assumes nothing.
use mathlib.Core.Path.{◌≡◌, refl, sym, ap, ◌∙◌}
use mathlib.Core.Bool.{true, false}
use mathlib.Core.List.{List}
use Prim.Native.Nat.{ℕ, zero, suc, ◌+◌, ◌-◌, ◌<◌, ◌≤◌}
use native.Mathlib.Omega.{arith}
use lib.ListN.{length, get_or, set}
use lib.Seq.{set-get_or}
use Rattle.paper.specs.Orders.{two_registers}
use Rattle.order_table.specs.Entries.{entry_of, decoded}
use Rattle.effects.specs.Parts.{Lent, address_of, stood_at, part_ordered}
use Rattle.machine.specs.InRow.{part_after, ends_row, row_length}
use Rattle.effects.specs.Worked.{InHand, Carried, Done}
use Rattle.machine.specs.After.{Fetched, After}
use Rattle.effects.specs.declared.Aim.{Aim}
use Rattle.effects.specs.declared.Segment.{Segment}
use Rattle.effects.specs.declared.Went.{Went}

-- the count of a row goes on, or ends
module _ (g : Segment) where
  row_on : (p : List ℕ) (n : ℕ) → 0 < n → ends_row g p ≡ false → row_length g p n ≡ suc (row_length g (part_ordered g p) (n - 1))
  unfolding row_length
  row_on p zero h e = absurd (omega arith)
  row_on p (suc n) h e =
      let same : suc n - 1 ≡ n = omega arith in
      rw (e, same)

  row_off : (p : List ℕ) (n : ℕ) → 0 < n → ends_row g p ≡ true → row_length g p n ≡ 1
  unfolding row_length
  row_off p zero h e = absurd (omega arith)
  row_off p (suc n) h e = rw e

-- so many orders of at most so many were carried out, and another may follow; shut, as a loop says it
pub record Goes (g : Segment) (p : List ℕ) (most done : ℕ) (m : List ℕ) (at : Aim) : Type 0 where
  pub hand_now : InHand g m at
  pub row_now : stood_at g m at ≡ part_after g p done
  pub count_now : row_length g p most ≡ done + row_length g (stood_at g m at) (most - done)
  pub few : done ≤ most
  pub long : length m ≡ length p

unfoldable pub Going : Segment → List ℕ → ℕ → ℕ → List ℕ → Aim → Type 0
Going g p most done m at = Goes g p most done m at

-- R0 of the part leads to the first order
module _ (g : Segment) (p : List ℕ) (lent : Lent g p) where
  pub part_some : 0 < length p
  unfolding Lent
  part_some = omega (arith, lent)

  pub part_based : g.from < 65536
  unfolding Lent
  part_based = omega (arith, lent)

  -- no order yet
  pub going_none : (most : ℕ) (at : Aim) → get_or p 8 0 < 4 → at.0 ≡ g.from + get_or p 0 0 → get_or p 0 0 < 65536 → Going g p most 0 p at
  unfolding Going InHand
  going_none most at quiet ea low =
      let whole : most - 0 ≡ most = omega arith in
      let own : address_of g at ≡ get_or p 0 0 = omega arith in
      let same : stood_at g p at ≡ p = ap (λ (k : ℕ). set p 0 k) own ∙ set-get_or p 0 0 in
      record {
        hand_now = (lent, quiet, omega arith, omega arith);
        row_now = same;
        count_now = rw (same, whole) (omega arith);
        few = omega arith;
        long = refl;
      }

module _ (g : Segment) (p : List ℕ) (most done : ℕ) (m : List ℕ) (at : Aim) (going : Going g p most done m at) where
  goes : Goes g p most done m at
  unfolding Going
  goes = going

  pub going_hand : InHand g m at
  going_hand = goes.hand_now

  pub going_long : length m ≡ length p
  going_long = goes.long

  -- the row ends here
  module _ (end : most ≤ done) where
    all : done ≡ most
    all = omega (arith, goes.few)

    none : most - done ≡ 0
    none = omega arith

    pub end_count : most ≡ row_length g p most
    unfolding row_length
    end_count =
        let e : row_length g p most ≡ done + 0 = rw none at goes.count_now in
        omega (arith, all)

    pub end_row : (out : List ℕ) → out ≡ stood_at g m at → out ≡ part_after g p most
    end_row out e = e ∙ goes.row_now ∙ ap (part_after g p) all

  -- one order more
  module _ (some : done < most) where
    row_more : (out : List ℕ) → Carried g m at out → out ≡ part_after g p (done + 1)
    unfolding Carried
    row_more out c =
        let next : suc done ≡ done + 1 = omega arith in
        c ∙ ap (part_ordered g) goes.row_now ∙ ap (part_after g p) next

    -- it is the last
    last_count : ends_row g (stood_at g m at) ≡ true → done + 1 ≡ row_length g p most
    last_count e = omega (arith, goes.count_now, row_off g (stood_at g m at) (most - done) (omega arith) e)

    module _ (r : Went) (l : List ℕ) (h : After g m at r l) where
      pub going_on : (y : Aim) → r ≡ Went.On y → length l ≡ length m → Going g p most (done + 1) l y
      unfolding Going After Done Carried
      going_on y e same =
          let on : Done g m at (Went.On y) l × (ends_row g (stood_at g m at) ≡ false) = rw e at h in
          let fewer : most - done - 1 ≡ most - (done + 1) = omega arith in
          let count : row_length g (stood_at g m at) (most - done) ≡ suc (row_length g (stood_at g l y) (most - (done + 1))) =
          row_on g (stood_at g m at) (most - done) (omega arith) on.1 ∙ ap suc (ap (row_length g (part_ordered g (stood_at g m at))) fewer ∙ ap (λ (q : List ℕ). row_length g q (most - (done + 1))) (sym on.0.0)) in
          record {
            hand_now = on.0.1;
            row_now = row_more (stood_at g l y) on.0.0;
            count_now = omega (arith, goes.count_now, count);
            few = omega arith;
            long = same ∙ goes.long;
          }

      off_is : r ≡ Went.Off → Carried g m at l × (ends_row g (stood_at g m at) ≡ true)
      unfolding After
      off_is e = rw e at h

      pub off_row : r ≡ Went.Off → l ≡ part_after g p (done + 1)
      off_row e = row_more l (off_is e).0

      pub off_count : r ≡ Went.Off → done + 1 ≡ row_length g p most
      off_count e = last_count (off_is e).1

      module _ (w : ℕ) (e : r ≡ Went.Left w) where
        left_is : (l ≡ m) × Fetched g m at w × (decoded (entry_of w) ≡ two_registers) × (ends_row g (stood_at g m at) ≡ true)
        unfolding After
        left_is = rw e at h

        pub left_hand : InHand g l at
        left_hand = rw left_is.0 goes.hand_now

        pub left_fetched : Fetched g l at w
        left_fetched = rw left_is.0 left_is.1

        pub left_shape : decoded (entry_of w) ≡ two_registers
        left_shape = left_is.2

        pub left_row : (out : List ℕ) → Carried g l at out → out ≡ part_after g p (done + 1)
        left_row out c = row_more out (rw left_is.0 at c)

        pub left_count : done + 1 ≡ row_length g p most
        left_count = last_count left_is.3

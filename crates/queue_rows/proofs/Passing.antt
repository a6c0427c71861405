-- Rows gone over one after another. Assumes nothing.
use mathlib.Core.Path.{◌≡◌, sym, ◌∙◌}
use mathlib.Core.List.{List}
use mathlib.Core.Bool.{Bool, true, false}
use mathlib.Core.Logic.{dite}
use Prim.Native.Nat.{ℕ, suc, ◌+◌, ◌-◌, ◌*◌, ◌<◌, ◌≤◌}
use native.Mathlib.Nat.{mul-le-mul_right}
use native.Mathlib.Decide.{dec_lt}
use native.Mathlib.Omega.{arith}
use lib.ListN.{get_or}
use Rattle.paper.specs.Image.{lead, word, place_at}
use Rattle.paper.specs.declared.Place.{Place}
use Rattle.laws.specs.Every.{every_none, every_more, every_fails, every_done}
use Rattle.laws.specs.Checked.{every_is}
use Rattle.connectives.specs.Failing.{together}
use Rattle.queue_rows.specs.BufferRows.{leads, row_queued, row_fine, row_at, RowsBetween, RightUpTo, AllRight}

-- the four words, read
pub row_tested : (im : List ℕ) (p : Place) (given : ℕ) (r : Bool)
    → r ≡ leads given (word im p) (get_or im (p.0 + 1) 0) (get_or im (p.0 + 2) 0) (get_or im (p.0 + 3) 0) → r ≡ row_queued im p given
unfolding row_queued
row_tested im p given r e = e

-- one row or more is left
module _ (from end : Place) (given : ℕ) (r : RowsBetween from end given) (l : from.0 < end.0) where
  some_left : 1 ≤ r.rows
  some_left = dite (dec_lt 0 r.rows) (λ h. h) (λ g. let z : r.rows ≡ 0 = omega (arith, g) in absurd (let e = rw z at r.ends in omega arith))

  pub row_fits : from.0 + (lead + given) ≤ end.0
  row_fits = omega (arith, r.ends, mul-le-mul_right (lead + given) some_left)

  pub rows_after : RowsBetween (place_at (from.0 + (lead + given))) end given
  rows_after =
      record {
        rows = r.rows - 1;
        ends = let m : suc (r.rows - 1) ≡ r.rows = omega (arith, some_left) in
            let e : end.0 ≡ from.0 + suc (r.rows - 1) * (lead + given) = rw m r.ends in
            omega arith;
      }

module _ (im : List ℕ) (from end : Place) (given : ℕ) (messages : Place) where
  -- no row passed yet; rows passed one part after another; one row
  pub passed_none : RowsBetween from end given → RightUpTo im from end given messages from
  passed_none r = record { k = 0; here = omega arith; right = every_none _; left = r }

  pub passed_both : (at next : Place) → RightUpTo im from end given messages at → RightUpTo im at end given messages next → RightUpTo im from end given messages next
  passed_both at next p q =
      record {
        k = p.k + q.k;
        here = omega (arith, p.here, q.here);
        right = (every_is (p.k + q.k) _).1 (λ j h.
            dite (dec_lt j p.k) (λ b. (every_is p.k _).0 p.right j b) (λ nb.
            let ij : j ≡ p.k + (j - p.k) = omega (arith, nb) in
            let place : (row_at from given (p.k + (j - p.k))).0 ≡ (row_at at given (j - p.k)).0 = omega (arith, p.here) in
            rw (ij, place) ((every_is q.k _).0 q.right (j - p.k) (omega (arith, nb, h)))));
        left = q.left;
      }

  module _ (at : Place) (p : RightUpTo im from end given messages at) (l : at.0 < end.0) where
    pub passed_one : row_fine im at given messages ≡ true → RightUpTo im from end given messages (place_at (at.0 + (lead + given)))
    passed_one right =
        let here : (row_at at given 0).0 ≡ at.0 = omega arith in
        let one = every_more 0 (λ j. row_fine im (row_at at given j) given messages) (every_none _) (rw here right) in
        passed_both at _ p record { k = 1; here = omega arith; right = one; left = rows_after at end given p.left l }

  -- past all rows is the end
  pub passed_last : (at : Place) → RightUpTo im from end given messages at → end.0 ≤ at.0 → RightUpTo im from end given messages end
  passed_last at p l = let e : end.0 ≡ at.0 = omega (arith, p.left.ends, l) in record { k = p.k; here = e ∙ p.here; right = p.right; left = record { rows = 0; ends = omega arith } }

  -- all rows, or one that is wrong
  module _ (at : Place) (p : RightUpTo im from end given messages at) where
    upto : (rows : ℕ) → end.0 ≡ (row_at from given rows).0 → p.k ≤ rows
    upto rows e =
        dite (dec_lt rows p.k) (λ h. absurd (omega (arith, e, p.here, p.left.ends, mul-le-mul_right (lead + given) h))) (λ g. omega (arith, g))

    pub rows_right : end.0 ≤ at.0 → AllRight im from end given messages true
    unfolding AllRight
    rows_right l rows e =
        let over : rows ≤ p.k = dite (dec_lt p.k rows) (λ h. absurd (omega (arith, e, p.here, l, mul-le-mul_right (lead + given) h))) (λ g. omega (arith, g)) in
        sym (every_done rows p.k _ p.right over (upto rows e))

    pub rows_wrong : at.0 < end.0 → row_fine im at given messages ≡ false → AllRight im from end given messages false
    unfolding AllRight
    rows_wrong l wrong rows e =
        let inside : p.k < rows = dite (dec_lt p.k rows) (λ h. h) (λ g. let m : rows ≤ p.k = omega (arith, g) in absurd (omega (arith, e, p.here, l, mul-le-mul_right (lead + given) m))) in
        sym (every_fails rows p.k _ inside (rw (← p.here) wrong))

  -- those that are left decide
  pub rows_left : (at : Place) → RightUpTo im from end given messages at → (r : Bool) → AllRight im at end given messages r → AllRight im from end given messages r
  unfolding AllRight
  rows_left at p r f rows e =
      let more : p.k + (rows - p.k) ≡ rows = omega (arith, upto at p rows e) in
      let far : end.0 ≡ (row_at from given (p.k + (rows - p.k))).0 = rw more e in
      let rest = f (rows - p.k) (omega (arith, far, p.here)) in
      let same : (j : ℕ) → (row_at from given (p.k + j)).0 ≡ (row_at at given j).0 = λ j. omega (arith, p.here) in
      together r _
      (λ t. (every_is rows _).1 (λ j h.
      dite (dec_lt j p.k) (λ b. (every_is p.k _).0 p.right j b) (λ nb.
      let ij : j ≡ p.k + (j - p.k) = omega (arith, nb) in
      rw (ij, same (j - p.k)) ((every_is (rows - p.k) _).0 (sym rest ∙ t) (j - p.k) (omega (arith, nb, h, more))))))
      (λ t. rest ∙ (every_is (rows - p.k) _).1 (λ j h. rw (← same j) ((every_is rows _).0 t (p.k + j) (omega (arith, h, more)))))

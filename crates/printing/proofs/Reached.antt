-- How far the text of a list is counted or written after its first k words. Assumes nothing.
use mathlib.Core.Path.{◌≡◌, refl, sym, ap, ◌∙◌}
use mathlib.Core.Bool.{Bool, true, false}
use mathlib.Core.Logic.{inl, inr, ◌≢◌}
use mathlib.Core.List.{List, [], ◌∷◌, ◌++◌}
use Prim.Native.Nat.{ℕ, zero, suc, ◌+◌, ◌-◌, ◌*◌, ◌<◌, ◌≤◌}
use native.Mathlib.Omega.{arith}
use borrow.Author.Tests.{ne_eqb}
use lib.Dec.{eqb}
use lib.ListN.{length, get_or, take, drop, length-append, length-drop, take-append-drop, drop_of_length-le}
use lib.Seq.{drop-cons, length-take-le, take-append-add, drop-append-add, take-append_seam, drop-append_seam}
use Rattle.grammar.specs.Printing.{printed}
use Rattle.rows.specs.Rows.{row_of, second}
use Rattle.printing.specs.Pieces.{piece, RowFor, row_alone, row_first, text_from}
use Rattle.printing.proofs.From.{first_piece}

-- a list that goes on with x after a place
module _ (l x y : List ℕ) (at : ℕ) (e : drop at l ≡ x ++ y) (h : at ≤ length l) where
  whole : l ≡ take at l ++ (x ++ y)
  whole = sym (take-append-drop at l) ∙ ap (λ r. take at l ++ r) e

  front_long : length (take at l) ≡ at
  front_long = length-take-le at l h

  pub goes_on_within : at + length x ≤ length l
  goes_on_within = omega (arith, ap length e, length-drop at l, length-append x y)

  pub goes_on_front : take (at + length x) l ≡ take at l ++ x
  goes_on_front =
      ap (take (at + length x)) whole
      ∙ ap (λ n. take (n + length x) (take at l ++ (x ++ y))) (sym front_long)
      ∙ take-append-add (take at l) (x ++ y) (length x)
      ∙ ap (λ r. take at l ++ r) (take-append_seam x y)

  pub goes_on_rest : drop (at + length x) l ≡ y
  goes_on_rest =
      ap (drop (at + length x)) whole
      ∙ ap (λ n. drop (n + length x) (take at l ++ (x ++ y))) (sym front_long)
      ∙ drop-append-add (take at l) (x ++ y) (length x)
      ∙ drop-append_seam x y

-- after k words the text up to a place is had, and what is left is the text of the other words
pub record Reached (ws : List ℕ) (k starts at : ℕ) : Type 0 where
  pub left : drop at (printed ws) ≡ text_from starts (drop k ws)
  pub within : at ≤ length (printed ws)
  pub flag : starts ≤ 1
  pub few : k ≤ length ws

pub reached_none : (ws : List ℕ) → Reached ws 0 1 0
unfolding text_from
reached_none ws = record { left = refl; within = omega arith; flag = omega arith; few = omega arith }

none_left : (starts : ℕ) → text_from starts [] ≡ []
unfolding text_from printed
none_left zero = refl
none_left (suc s) = refl

pub reached_all : (ws : List ℕ) (k starts at : ℕ) → Reached ws k starts at → length ws ≤ k → at ≡ length (printed ws)
reached_all ws k starts at r h =
    let e : drop at (printed ws) ≡ [] = r.left ∙ rw (drop_of_length-le ws h) (none_left starts) in
    omega (arith, ap length e, length-drop at (printed ws), r.within)

-- the row of a list's first word is its own or that of a number, also where no line starts at it
first_row_for : (w : ℕ) (ws : List ℕ) → RowFor (row_first (w ∷ ws)) w
unfolding row_first
first_row_for w [] = either (eqb (second (row_of w)) 1)
  where
    either : (t : Bool) → RowFor (elim t [ true ↦ 0 | false ↦ row_of w ]) w
    either true = inl refl
    either false = inr refl
first_row_for w (n ∷ ws) = inr refl

started_row_for : (row starts w : ℕ) → starts ≤ 1 → RowFor row w → RowFor (row * starts) w
started_row_for row zero w h f = inl (omega arith)
started_row_for row (suc zero) w h f = let e : row * 1 ≡ row = omega arith in rw e f
started_row_for row (suc (suc s)) w h f = absurd (omega arith)

-- the row of the first word after k: its own where another word follows, and where it is the last and needs no second word
module _ (ws : List ℕ) (k row : ℕ) (h : k < length ws) (e : row ≡ row_of (get_or ws k 0)) where
  pub row_followed : k + 1 < length ws → row ≡ row_first (drop k ws)
  unfolding row_first
  row_followed g = e ∙ ap row_first (sym (drop-cons ws k 0 h ∙ ap (λ r. get_or ws k 0 ∷ r) (drop-cons ws (suc k) 0 (omega arith))))

  is_last : length ws ≤ k + 1 → row_first (drop k ws) ≡ row_alone row
  unfolding row_first
  is_last g = ap row_first (drop-cons ws k 0 h ∙ ap (λ r. get_or ws k 0 ∷ r) (drop_of_length-le ws {i = suc k} (omega arith))) ∙ ap row_alone (sym e)

  pub row_lone : length ws ≤ k + 1 → second row ≡ 1 → 0 ≡ row_first (drop k ws)
  row_lone g o = sym (is_last g ∙ rw (o, row_alone))

  pub row_last : length ws ≤ k + 1 → second row ≢ 1 → row ≡ row_first (drop k ws)
  row_last g n = sym (is_last g ∙ rw (ne_eqb (second row) 1 n, row_alone))

-- the next word
module _ (ws : List ℕ) (k starts at row : ℕ) (r : Reached ws k starts at) (h : k < length ws) (e : row ≡ row_first (drop k ws)) where
  abbrev first : List ℕ
  first = piece (row * starts) (get_or ws k 0)

  abbrev rest : List ℕ
  rest = text_from (1 - starts * second row) (drop (suc k) ws)

  is_row : row ≡ row_first (get_or ws k 0 ∷ drop (suc k) ws)
  is_row = e ∙ ap row_first (drop-cons ws k 0 h)

  goes : drop at (printed ws) ≡ first ++ rest
  goes =
      r.left
      ∙ ap (text_from starts) (drop-cons ws k 0 h)
      ∙ first_piece starts (get_or ws k 0) (drop (suc k) ws) r.flag
      ∙ ap (λ q. piece (q * starts) (get_or ws k 0) ++ text_from (1 - starts * second q) (drop (suc k) ws)) (sym is_row)

  pub reached_within : at + length first ≤ length (printed ws)
  reached_within = goes_on_within (printed ws) first rest at goes r.within

  pub reached_front : take (at + length first) (printed ws) ≡ take at (printed ws) ++ first
  reached_front = goes_on_front (printed ws) first rest at goes r.within

  pub reached_next : (next s : ℕ) → next ≡ at + length first → s ≡ second row → Reached ws (k + 1) (1 - starts * s) next
  reached_next next s en es =
      let k' : k + 1 ≡ suc k = omega arith in
      record {
        left = rw (en, es, k') (goes_on_rest (printed ws) first rest at goes r.within);
        within = rw en reached_within;
        flag = omega arith;
        few = omega arith;
      }

  pub row_for : RowFor row (get_or ws k 0)
  row_for = rw is_row (first_row_for (get_or ws k 0) (drop (suc k) ws))

  pub row_for_piece : RowFor (row * starts) (get_or ws k 0)
  row_for_piece = started_row_for row starts (get_or ws k 0) r.flag row_for

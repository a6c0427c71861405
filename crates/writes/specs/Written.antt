-- A list with words written over it from a place on. Assumes nothing.
use Rattle.std.specs.Prelude.{◌≡◌, refl, List, [], ◌∷◌, ◌++◌, ℕ, zero, suc, ◌+◌, ◌<◌, ◌≤◌, length, set, take, drop}
use Rattle.std.proofs.Common.{sym, ap, ◌∙◌, append-nil, add-zero, zero-add, add-suc, suc-add, arith, set-set, append_assoc}
use Rattle.std.proofs.lemmas.List.{drop-drop}
use Rattle.std.proofs.lemmas.List.Edits.{sets, sets-eq}
use borrow.Rule.Slice.PartMut.{put_mid}
use Rattle.std.proofs.Math.Seq.{length-sets, drop-length}

-- vs stored from index i on
unfoldable pub written : List ℕ → ℕ → List ℕ → List ℕ
written l i vs = sets l i vs

pub written_length : (l : List ℕ) (i : ℕ) (vs : List ℕ) → length (written l i vs) ≡ length l
unfolding written
written_length l i vs = length-sets l i vs

pub written_none : (l : List ℕ) (i : ℕ) → written l i [] ≡ l
unfolding written
written_none l i = refl

pub written_one : (l : List ℕ) (i v : ℕ) → set l i v ≡ written l i (v ∷ [])
unfolding written
written_one l i v = refl

-- words written after those before them
pub written_on : (l : List ℕ) (i : ℕ) (a b : List ℕ) → written (written l i a) (i + length a) b ≡ written l i (a ++ b)
unfolding written
written_on l i [] b = ap (λ (k : ℕ). sets l k b) (add-zero i)
written_on l i (x ∷ a) b = ap (λ (k : ℕ). sets (sets (set l i x) (suc i) a) k b) (add-suc i (length a) ∙ sym (suc-add i (length a))) ∙ written_on (set l i x) (suc i) a b

-- a list written all over
pub written_all : (l vs : List ℕ) → length l ≡ length vs → written l 0 vs ≡ vs
unfolding written
written_all l vs e = sets-eq vs l 0 (omega arith) ∙ rw (zero-add, ← e, drop-length) (append-nil vs)

-- a word set before those written, and words written over as many others
set_before : (l : List ℕ) (i j a b : ℕ) → i < j → set (set l j b) i a ≡ set (set l i a) j b
set_before [] i j a b h = refl
set_before (x ∷ l) i zero a b h = absurd (omega arith)
set_before (x ∷ l) zero (suc j) a b h = refl
set_before (x ∷ l) (suc i) (suc j) a b h = ap (λ (r : List ℕ). x ∷ r) (set_before l i j a b (omega arith))

written_past : (l : List ℕ) (i j v : ℕ) (vs : List ℕ) → i < j → set (sets l j vs) i v ≡ sets (set l i v) j vs
written_past l i j v [] h = refl
written_past l i j v (x ∷ vs) h =
    written_past (set l j x) i (suc j) v vs (omega arith) ∙ ap (λ (r : List ℕ). sets r (suc j) vs) (set_before l i j v x h)

pub written_over : (l : List ℕ) (i : ℕ) (us vs : List ℕ) → length us ≡ length vs → written (written l i us) i vs ≡ written l i vs
unfolding written
written_over l i [] [] e = refl
written_over l i [] (v ∷ vs) e = absurd (omega arith)
written_over l i (u ∷ us) [] e = absurd (omega arith)
written_over l i (u ∷ us) (v ∷ vs) e =
    ap (λ (r : List ℕ). sets r (suc i) vs) (written_past (set l i u) i (suc i) v us (omega arith)) ∙
    ap (λ (r : List ℕ). sets (sets r (suc i) us) (suc i) vs) (set-set l i u v) ∙ written_over (set l i v) (suc i) us vs (omega arith)

pub kept_length : (l out : List ℕ) (at : ℕ) (vs : List ℕ) → out ≡ written l at vs → length out ≡ length l
kept_length l out at vs e = ap length e ∙ written_length l at vs

-- two lists written one after another
pub then_on : (o a b : List ℕ) (at p : ℕ) (x y : List ℕ) → a ≡ written o at x → p ≡ at + length x → b ≡ written a p y → b ≡ written o at (x ++ y)
then_on o a b at p x y ea ep eb = rw (eb, ea, ep) (written_on o at x y)

-- after a write to l[i..i + k]: vs is what that part is now
pub part_written : (l us vs : List ℕ) (i k : ℕ) → us ≡ vs → k ≡ length vs → i + k ≤ length l → put_mid i k l us ≡ written l i vs
unfolding written
part_written l us vs i k eu ek h =
    rw (eu, ek, drop-drop, ← append_assoc (take i l) vs (drop (i + length vs) l)) (sym (sets-eq vs l i (omega arith)))

-- what a loop has written so far: one word more, and all of it
module _ (l out : List ℕ) (at k : ℕ) where
  pub one_more : (vs : List ℕ) (v : ℕ) → out ≡ written l at vs → k ≡ length vs → set out (at + k) v ≡ written l at (vs ++ (v ∷ []))
  one_more vs v e h = rw (h, e) (written_one (written l at vs) (at + length vs) v ∙ written_on l at vs (v ∷ []))

  pub all_done : (f : ℕ → List ℕ) (n : ℕ) → out ≡ written l at (f k) → n ≤ k → k ≤ n → out ≡ written l at (f n)
  all_done f n e h g = let z : n ≡ k = omega arith in rw z e

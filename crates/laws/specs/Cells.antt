-- Reading after writing, of cells by their names. Assumes nothing.
use Rattle.std.specs.Prelude.{◌≡◌, List, not, ◌≢◌, ℕ, ◌+◌, ◌<◌, length, T, eqb, ltb}
use Rattle.std.proofs.Common.{sym, ap, zero-add, zero-mul, arith, length-set, get_or-set_same, get_or-set_other, T_not, lit<, ltb→lt}
use Rattle.std.proofs.lemmas.List.{set-get_or}
use Rattle.std.proofs.Math.Dec.{eqb_refl}
use Rattle.paper.specs.Image.{ord, rows, width, total, cell, Valid, place, at, put, header_word, lead}
use Rattle.paper.specs.declared.Shape.{Shape}
use Rattle.paper.specs.declared.Cell.{Cell}
use Rattle.paper.specs.declared.Part.{Part}
use Rattle.laws.specs.Places.{below, apart}

-- a header word is at its own place
pub at_header : (s : Shape) (im : List ℕ) (k : ℕ) → at s im (cell Part.Header 0 k) ≡ header_word im k
unfolding at place
at_header s im k = simp (zero-mul, zero-add)

-- what is written is read, and every other cell is as it was
pub at_same : (s : Shape) (im : List ℕ) (c : Cell) (v : ℕ) → Valid s c → length im ≡ total s → at s (put s im c v) c ≡ v
unfolding at put
at_same s im c v hc hn = get_or-set_same im (place s c).0 v 0 (omega (arith, below s c hc))

pub at_other : (s : Shape) (im : List ℕ) (c d : Cell) (v : ℕ) → Valid s c → Valid s d → d ≢ c → at s (put s im c v) d ≡ at s im d
unfolding at put
at_other s im c d v hc hd ne = get_or-set_other im (place s c).0 (place s d).0 v 0 (apart s d c hd hc ne)

-- a write of what a cell holds changes nothing
pub put_held : (s : Shape) (im : List ℕ) (c : Cell) (v : ℕ) → at s im c ≡ v → put s im c v ≡ im
unfolding at put
put_held s im c v e = rw (← e) (set-get_or im (place s c).0 0)

pub length_put : (s : Shape) (im : List ℕ) (c : Cell) (v : ℕ) → length (put s im c v) ≡ length im
unfolding put
length_put s im c v = length-set im (place s c).0 v

-- the same, by part, row and column; parts and numerals are told apart by a test that computes
module _ (s : Shape) (im : List ℕ) (p q : Part) (i j k l v : ℕ) where
  pub other_part : T (not (eqb (ord q) (ord p))) → i < rows s p → k < width s p → j < rows s q → l < width s q
      → at s (put s im (cell p i k) v) (cell q j l) ≡ at s im (cell q j l)
  other_part ne hi hk hj hl =
      at_other s im _ _ v (hi, hk) (hj, hl) (λ e.
      let z : ord p ≡ ord q = ap (λ (c : Cell). ord c.part) (sym e) in
      T_not (eqb (ord q) (ord p)) ne (rw z (eqb_refl (ord q))))

module _ (s : Shape) (im : List ℕ) (p : Part) (i j k l v : ℕ) where
  pub other_column : T (not (eqb l k)) → i < rows s p → k < width s p → j < rows s p → l < width s p
      → at s (put s im (cell p i k) v) (cell p j l) ≡ at s im (cell p j l)
  other_column ne hi hk hj hl =
      at_other s im _ _ v (hi, hk) (hj, hl) (λ e.
      let z : k ≡ l = ap (λ (c : Cell). c.column) (sym e) in
      T_not (eqb l k) ne (rw z (eqb_refl l)))

  pub other_row : j ≢ i → i < rows s p → k < width s p → j < rows s p → l < width s p
      → at s (put s im (cell p i k) v) (cell p j l) ≡ at s im (cell p j l)
  other_row ne hi hk hj hl = at_other s im _ _ v (hi, hk) (hj, hl) (λ e. ne (ap (λ (c : Cell). c.row) e))

pub same : (s : Shape) (im : List ℕ) (p : Part) (i k v : ℕ) → length im ≡ total s → i < rows s p → k < width s p
    → at s (put s im (cell p i k) v) (cell p i k) ≡ v
same s im p i k v h hi hk = at_same s im _ v (hi, hk) h

-- a slot of a queue is none of its first four words, nor the other way round
module _ (s : Shape) (im : List ℕ) (p : Part) (i j y l v : ℕ) (t : T (ltb l lead)) where
  pub lead_kept : i < rows s p → lead + y < width s p → j < rows s p → l < width s p
      → at s (put s im (cell p i (lead + y)) v) (cell p j l) ≡ at s im (cell p j l)
  lead_kept hi hk hj hl =
      at_other s im _ _ v (hi, hk) (hj, hl) (λ e.
      let z : lead + y ≡ l = ap (λ (c : Cell). c.column) (sym e) in
      omega (arith, ltb→lt l lead t))

  pub slot_kept : i < rows s p → l < width s p → j < rows s p → lead + y < width s p
      → at s (put s im (cell p i l) v) (cell p j (lead + y)) ≡ at s im (cell p j (lead + y))
  slot_kept hi hk hj hl =
      at_other s im _ _ v (hi, hk) (hj, hl) (λ e.
      let z : lead + y ≡ l = ap (λ (c : Cell). c.column) e in
      omega (arith, ltb→lt l lead t))

-- a leading word lies within its row
pub in_lead : (k n : ℕ) → T (ltb k lead) → k < lead + n
in_lead k n t = omega (arith, ltb→lt k lead t)

-- `search cells` reads through nested writes
pub ruleset cells = (other_part, other_column, other_row, lead_kept, slot_kept, same, length_put, lit<, in_lead)

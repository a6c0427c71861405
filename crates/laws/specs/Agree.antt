-- An order stands on its task's own words alone: what they say it does, and what it makes of them. Assumes nothing.
use Rattle.std.specs.Prelude.{◌≡◌, refl, List, not, ◌≢◌, ℕ, ◌-◌, ◌<◌, T, eqb, get_or, Result}
use Rattle.std.proofs.Common.{sym, ◌∙◌, inl, inr, arith, T_not}
use Rattle.std.proofs.Math.Path.{ap}
use Rattle.paper.specs.Image.{place_at, ord, cell, Valid, place, at, put, clock, reg, base, len}
use Rattle.paper.specs.Machines.{Machine, Lies, machine, put_back, lies, own, with_own}
use Rattle.paper.specs.Orders.{decided, after, order, after_order}
use Rattle.paper.specs.Rules.{Laid}
use Rattle.paper.specs.declared.Task.{Task}
use Rattle.paper.specs.declared.Shape.{Shape}
use Rattle.paper.specs.declared.Cell.{Cell}
use Rattle.paper.specs.declared.Part.{Part}
use Rattle.own.specs.Machines.{Fits, OwnPlace, machine_fits, after_fits, machine_put, machine_same, machine_elsewhere, put_set}
use Rattle.laws.specs.Cells.{at_other}
use Rattle.laws.specs.Segments.{segment_cell, segment_valid, segment_place, segments_apart}
use Rattle.laws.specs.Orders.{OwnCell, not_own, lies_apart, own_cell, keeps_own}
use Rattle.paper.specs.declared.Change.{Change}

-- where a task's words lie is what the segment table says
abbrev lying : ℕ → ℕ → ℕ → Lies
lying r b n = record { row = r; base = b; length = n }

pub lies_same : (s : Shape) (im m : List ℕ) (i : Task) → at s m (base i) ≡ at s im (base i) → at s m (len i) ≡ at s im (len i) → lies s m i ≡ lies s im i
lies_same s im m i b n =
    let e : lying (place s (reg i 0)).0 (at s m (base i)) (at s m (len i)) ≡ lying (place s (reg i 0)).0 (at s im (base i)) (at s im (len i)) =
    cc (b, n) in
    e

-- where the cells of a task hold the same and lie where they lay, its machine is the same
pub own_same : (s : Shape) (im m : List ℕ) (i : Task) → i.0 < s.n → Laid s im → lies s m i ≡ lies s im i
    → ((c : Cell) → Valid s c → OwnCell s im i c → at s m c ≡ at s im c) → own s m i ≡ own s im i
unfolding at place
own_same s im m i hi laid there f =
    ap (λ (g : Lies). machine g m) there ∙ machine_same (lies s im i) m im go
  where
    go : (j : ℕ) → OwnPlace (lies s im i) j → get_or m j 0 ≡ get_or im j 0
    go j (inl k) =
        let c = reg i (j - (place s (reg i 0)).0) in
        let e : (place s c).0 ≡ j = omega arith in
        rw e at (f c (hi, omega arith) (inl (refl, refl)))
    go j (inr k) =
        let p = place_at j in
        let e : (place s (segment_cell s p)).0 ≡ j = segment_place s im laid i hi p k in
        rw e at (f (segment_cell s p) (segment_valid s im laid i hi p k) (inr (refl, rw e k)))

-- a cell of one task is no other's
pub own_apart : (s : Shape) (im : List ℕ) → Laid s im → (i j : Task) → i.0 < s.n → j.0 < s.n → i.0 ≢ j.0
    → (c : Cell) → OwnCell s im i c → ¬ OwnCell s im j c
own_apart s im laid i j hi hj ne c (inl (_, a)) (inl (_, b)) = ne (sym a ∙ b)
own_apart s im laid i j hi hj ne c (inl (a, _)) (inr (b, _)) = absurd (let z : ◌≡◌ {A = ℕ} 1 9 = ap ord (sym a ∙ b) in omega arith)
own_apart s im laid i j hi hj ne c (inr (a, _)) (inl (b, _)) = absurd (let z : ◌≡◌ {A = ℕ} 9 1 = ap ord (sym a ∙ b) in omega arith)
own_apart s im laid i j hi hj ne c (inr (_, a)) (inr (_, b)) =
    segments_apart s im laid i hi (place s c) a j hj (λ e. ne (sym e)) (place s c) b refl

-- images that agree on a task's own words give the same order
pub order_agrees : (s : Shape) (im im' : List ℕ) (i : Task) → own s im i ≡ own s im' i → order s im i ≡ order s im' i
order_agrees s im im' i e = ap decided e

module _ (s : Shape) (im : List ℕ) (i : Task) (hi : i.0 < s.n) (laid : Laid s im) where
  fits_after : (e : Result (ℕ × Change) ℕ) → Fits (lies s im i) (after (own s im i) e)
  fits_after e = after_fits (lies s im i) (own s im i) (machine_fits (lies s im i) im) e

  -- a machine put back lies where it lay, is the task's own, and takes the place of one put back before
  module _ (m : Machine) (fits : Fits (lies s im i) m) where
    pub lies_with : lies s (with_own s im i m) i ≡ lies s im i
    lies_with =
        let k = keeps_own s im i hi laid m fits in
        lies_same s im (with_own s im i m) i (k.others (base i) (hi, omega arith) (not_own s im i (base i) tt tt))
        (k.others (len i) (hi, omega arith) (not_own s im i (len i) tt tt))

    pub own_with : own s (with_own s im i m) i ≡ m
    own_with =
        ap (λ (g : Lies). machine g (with_own s im i m)) lies_with ∙ machine_put (lies s im i) im m fits (lies_apart s im i hi laid)

  -- so after an order the task's own words are those of its machine after it
  pub own_after : (e : Result (ℕ × Change) ℕ) → own s (after_order s im i e) i ≡ after (own s im i) e
  own_after e = own_with (after (own s im i) e) (fits_after e)

  -- a cell that is not the task's own, nor of the segment table, may be written before an order or after it
  module _ (c : Cell) (v : ℕ) (hc : Valid s c) (other : ¬ OwnCell s im i c) (t : T (not (eqb (ord c.part) 8))) where
    elsewhere : ¬ OwnPlace (lies s im i) (place s c).0
    elsewhere k = other (own_cell s im i hi laid c hc k)

    off_table : (k : ℕ) → k < 2 → at s (put s im c v) (cell Part.SegmentTable i.0 k) ≡ at s im (cell Part.SegmentTable i.0 k)
    off_table k hk =
        at_other s im c (cell Part.SegmentTable i.0 k) v hc (hi, hk) (λ e. T_not (eqb (ord c.part) 8) t (rw (← e) tt))

    pub lies_put : lies s (put s im c v) i ≡ lies s im i
    lies_put = lies_same s im (put s im c v) i (off_table 0 (omega arith)) (off_table 1 (omega arith))

    pub own_put : own s (put s im c v) i ≡ own s im i
    unfolding put
    own_put = ap (λ (g : Lies). machine g (put s im c v)) lies_put ∙ machine_elsewhere (lies s im i) im (place s c).0 v elsewhere

    pub with_own_put : (m : Machine) → Fits (lies s im i) m → with_own s (put s im c v) i m ≡ put s (with_own s im i m) c v
    unfolding put
    with_own_put m fits =
        ap (λ (g : Lies). put_back g (put s im c v) m) lies_put ∙ put_set (lies s im i) im m fits (place s c).0 v elsewhere

    pub after_put : (e : Result (ℕ × Change) ℕ) → after_order s (put s im c v) i e ≡ put s (after_order s im i e) c v
    after_put e =
        ap (λ (m : Machine). with_own s (put s im c v) i (after m e)) own_put ∙ with_own_put (after (own s im i) e) (fits_after e)

  -- so with the clock
  pub own_clock : (v : ℕ) → own s (put s im clock v) i ≡ own s im i
  own_clock v = own_put clock v (omega arith, omega arith) (not_own s im i clock tt tt) tt

  pub after_clock : (v : ℕ) (e : Result (ℕ × Change) ℕ) → after_order s (put s im clock v) i e ≡ put s (after_order s im i e) clock v
  after_clock v e = after_put clock v (omega arith, omega arith) (not_own s im i clock tt tt) tt e

-- images that agree on a task's own words agree on them after an order
pub after_agrees : (s : Shape) (im im' : List ℕ) (i : Task) → i.0 < s.n → Laid s im → Laid s im' → own s im i ≡ own s im' i
    → (e : Result (ℕ × Change) ℕ) → own s (after_order s im i e) i ≡ own s (after_order s im' i e) i
after_agrees s im im' i hi laid laid' same e =
    own_after s im i hi laid e ∙ ap (λ (m : Machine). after m e) same ∙ sym (own_after s im' i hi laid' e)

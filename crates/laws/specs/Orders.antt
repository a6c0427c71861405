-- After an order every cell but its task's own is as it was, and its flags are in range. Assumes nothing.
use Rattle.std.specs.Prelude.{◌≡◌, List, not, ◌≢◌, ◌⊎◌, ℕ, ◌+◌, ◌-◌, ◌<◌, ◌≤◌, T, eqb, length, Err, Ok, Result}
use Rattle.std.proofs.Common.{sym, ◌∙◌, arith, T_not}
use Rattle.std.proofs.Math.Path.{ap}
use Rattle.std.proofs.Math.Logic.{inl, inr}
use Rattle.paper.specs.Image.{ord, shape_of, Valid, place, at, put, reg, flags}
use Rattle.paper.specs.Flags.{cc_of, error_of, pending_of, most_cc, most_error, error, pending}
use Rattle.paper.specs.Services.{services}
use Rattle.paper.specs.Machines.{Machine, machine, lies, own, with_own}
use Rattle.paper.specs.Orders.{after, order, after_order}
use Rattle.paper.specs.Rules.{Laid, Flagged}
use Rattle.paper.specs.declared.Task.{Task}
use Rattle.paper.specs.declared.Shape.{Shape}
use Rattle.paper.specs.declared.Cell.{Cell}
use Rattle.paper.specs.declared.Part.{Part}
use Rattle.own.specs.Machines.{RowBeforeSegment, Fits, OwnPlace, machine_fits, machine_flags, length_put_back, after_fits, machine_put, put_elsewhere}
use Rattle.laws.specs.Places.{one_cell}
use Rattle.laws.specs.Cells.{at_other}
use Rattle.laws.specs.Layout.{shape_is}
use Rattle.laws.specs.Segments.{segment_cell, InSegment, segment_from, segment_upto, segment_valid, segment_place}
use Rattle.laws.specs.Sound.{Sound, sound, fixed}
use Rattle.laws.specs.Frame.{Frame, frame_sound}
use Rattle.laws.specs.Effects.{Own, own_error, order_own, does_fine, faulted_flags}
use Rattle.paper.specs.declared.Change.{Change}

-- a cell of task i: one of its registers, its flags, or a word of its segment
abbrev pub OwnCell : Shape → List ℕ → Task → Cell → Type 0
OwnCell s im i c =
    ((c.part ≡ Part.TaskTable) × (c.row ≡ i.0)) ⊎ ((c.part ≡ Part.Segments) × InSegment s im i (place s c))

-- an image that differs from im in cells of task i alone
abbrev pub Keeps : Shape → List ℕ → Task → List ℕ → Type 0
Keeps s im i m = Frame s (OwnCell s im i) im m

module _ (s : Shape) (im : List ℕ) (i : Task) where
  module _ (hi : i.0 < s.n) where
    module _ (laid : Laid s im) where
      -- a task's row lies before its segment, and that within the image
      pub lies_apart : RowBeforeSegment (lies s im i) im
      unfolding place
      lies_apart = (omega (arith, segment_from s im laid i hi), omega (arith, segment_upto s im laid i hi, laid.words))

      -- a cell of its words is its own
      pub own_cell : (c : Cell) → Valid s c → OwnPlace (lies s im i) (place s c).0 → OwnCell s im i c
      unfolding place
      own_cell c hc (inl k) =
          let e = one_cell s c (reg i ((place s c).0 - (place s (reg i 0)).0)) hc (hi, omega arith) (omega arith) in
          inl (ap (λ (x : Cell). x.part) e, ap (λ (x : Cell). x.row) e)
      own_cell c hc (inr k) =
          let e = one_cell s c (segment_cell s (place s c)) hc (segment_valid s im laid i hi (place s c) k) (sym (segment_place s im laid i hi (place s c) k)) in
          inr (ap (λ (x : Cell). x.part) e, k)

      -- so any machine put back keeps every cell but those, and so does an order
      pub keeps_own : (m : Machine) → Fits (lies s im i) m → Keeps s im i (with_own s im i m)
      unfolding at
      keeps_own m fits =
          record {
            long = length_put_back (lies s im i) im m;
            others = λ c hc f. put_elsewhere (lies s im i) im m fits (place s c).0 (λ k. f (own_cell c hc k));
          }

      pub effect_keeps : (e : Result (ℕ × Change) ℕ) → Keeps s im i (after_order s im i e)
      effect_keeps e = keeps_own _ (after_fits (lies s im i) (own s im i) (machine_fits (lies s im i) im) e)

      pub order_keeps : Keeps s im i (after_order s im i (order s im i))
      order_keeps = effect_keeps (order s im i)

-- cells of other parts are no task's own
pub not_own : (s : Shape) (im : List ℕ) (i : Task) (c : Cell) → T (not (eqb (ord c.part) 1)) → T (not (eqb (ord c.part) 9)) → ¬ OwnCell s im i c
not_own s im i c t g (inl (e, _)) = T_not (eqb (ord c.part) 1) t (rw e tt)
not_own s im i c t g (inr (e, _)) = T_not (eqb (ord c.part) 9) g (rw e tt)

-- so the layout, the queues and the shape stay
module _ (s : Shape) (im : List ℕ) (i : Task) (m : List ℕ) (h : Sound s im) (k : Keeps s im i m) where
  own_free : (c : Cell) → c.column < fixed c.part → ¬ OwnCell s im i c
  own_free c l (inl (p, _)) = let z : fixed c.part ≡ 0 = ap fixed p in omega arith
  own_free c l (inr (p, _)) = let z : fixed c.part ≡ 0 = ap fixed p in omega arith

  pub keeps_sound : Sound s m
  keeps_sound = frame_sound k own_free h

  pub keeps_shape : shape_of m ≡ shape_of im
  keeps_shape = shape_is s m (sound keeps_sound).laid ∙ sym (shape_is s im (sound h).laid)

module _ (s : Shape) (im : List ℕ) (i : Task) (hi : i.0 < s.n) (h : Sound s im) (f : Flagged s im i) where
  -- registers and words of the segment are not the flags
  pub register_apart : (m : List ℕ) (r v : ℕ) → r < 8 → at s (put s m (reg i r) v) (flags i) ≡ at s m (flags i)
  register_apart m r v hr =
      at_other s m (reg i r) (flags i) v (hi, omega arith) (hi, omega arith) (λ e.
      let z : 8 ≡ r = ap (λ (c : Cell). c.column) e in
      omega arith)

-- a task's flags are its machine's
place_flags : (s : Shape) (i : Task) → (place s (flags i)).0 ≡ (place s (reg i 0)).0 + 8
unfolding place
place_flags s i = omega arith

pub own_flags : (s : Shape) (im : List ℕ) (i : Task) → at s im (flags i) ≡ (own s im i).flags
unfolding at machine
own_flags s im i = rw (place_flags s i)

pub with_own_flags : (s : Shape) (im : List ℕ) (i : Task) → i.0 < s.n → Laid s im → (m : Machine) → Fits (lies s im i) m
    → at s (with_own s im i m) (flags i) ≡ m.flags
unfolding at
with_own_flags s im i hi laid m fits =
    rw (place_flags s i)
    (sym (machine_flags (lies s im i) (with_own s im i m)) ∙
    ap (λ (x : Machine). x.flags) (machine_put (lies s im i) im m fits (lies_apart s im i hi laid)))

-- flags in range
flagged_of : (s : Shape) (im : List ℕ) (i : Task) (x : ℕ) → at s im (flags i) ≡ x → cc_of x ≤ most_cc → error_of x ≤ most_error
    → pending_of x ≤ length services → (error_of x ≢ 0 → pending_of x ≡ 0) → Flagged s im i
flagged_of s im i x e c r p both =
    record { cc_range = rw e c; error_range = rw e r; pending_range = rw e p; never_both = rw e both }

-- where nothing is pending and there is no error, an order leaves flags in range, and never both
module _ (s : Shape) (im : List ℕ) (i : Task) (hi : i.0 < s.n) (h : Sound s im) (f : Flagged s im i) (calm : error s im i ≡ 0) (idle : pending s im i ≡ 0) where
  flags_written : (e : Result (ℕ × Change) ℕ) → at s (after_order s im i e) (flags i) ≡ (after (own s im i) e).flags
  flags_written e = with_own_flags s im i hi (sound h).laid _ (after_fits (lies s im i) (own s im i) (machine_fits (lies s im i) im) e)

  flagged_effect : (e : Result (ℕ × Change) ℕ) → Own (own s im i) e → Flagged s (after_order s im i e) i
  flagged_effect (Ok (next, c)) own' =
      let is = own_flags s im i in
      let fine = does_fine (own s im i) next c own' in
      flagged_of s _ i _ (flags_written (Ok (next, c))) (fine.cc_fine (rw is at f.cc_range)) (omega (arith, fine.error_kept, is, calm))
      (fine.pending_fine (rw is at f.pending_range)) (λ ne. absurd (ne (fine.error_kept ∙ (rw is at calm))))
  flagged_effect (Err e) own' =
      let is = own_flags s im i in
      let range = own_error (own s im i) e own' in
      let r = faulted_flags (own s im i) e (omega (arith, range)) in
      flagged_of s _ i _ (flags_written (Err e)) (rw r.0 (rw is at f.cc_range)) (omega (arith, r.1, range))
      (rw r.2 (rw is at f.pending_range)) (λ ne. r.2 ∙ (rw is at idle))

  pub order_flagged : Flagged s (after_order s im i (order s im i)) i
  order_flagged = flagged_effect (order s im i) (order_own (own s im i))

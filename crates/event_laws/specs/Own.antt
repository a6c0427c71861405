-- A change of a ready task's own words, and one of the clock, keep an image good. Assumes nothing.
use Rattle.std.specs.Prelude.{◌≡◌, refl, List, Bool, true, ◌||◌, ◌≢◌, ℕ, ◌<◌, ◌≤◌, eqb, Option}
use Rattle.std.proofs.Common.{ap, ◌∙◌, inl, inr, arith}
use Rattle.std.proofs.Math.Logic.{dite}
use Rattle.std.proofs.Math.Decide.{ℕ_discrete}
use Rattle.paper.specs.Image.{ord, at, clock, reg, status, peer}
use Rattle.paper.specs.Flags.{is_ready}
use Rattle.paper.specs.Rules.{Flagged, Empty, Stands}
use Rattle.paper.specs.declared.Task.{Task}
use Rattle.paper.specs.declared.Shape.{Shape}
use Rattle.paper.specs.declared.Cell.{Cell}
use Rattle.paper.specs.declared.Part.{Part}
use Rattle.paper.specs.declared.Queue.{Queue}
use Rattle.laws.specs.Queues.{same_task}
use Rattle.laws.specs.Sound.{Sound, fixed}
use Rattle.laws.specs.Frame.{Frame, Apart, frame_more, frame_sound, flagged_frame, kept_flags, kept_status, kept_peer, kept_same}
use Rattle.laws.specs.Changes.{header_part}
use Rattle.laws.specs.Orders.{OwnCell, Keeps, keeps_sound}
use Rattle.event_laws.specs.Standing.{ready_stands}
use Rattle.event_laws.specs.Kept.{Spared, Nearly, kept_stands, kept_nearly, kept_listed, kept_slots, kept_clocked, kept_none}

-- the parts of own words: the task table and the segments
abbrev pub own_parts : Part → Bool
own_parts p = eqb (ord p) 1 || eqb (ord p) 9

pub own_picked : (s : Shape) (im : List ℕ) (i : Task) (c : Cell) → OwnCell s im i c → own_parts c.part ≡ true
own_picked s im i c (inl (p, _)) = ap own_parts p
own_picked s im i c (inr (p, _)) = ap own_parts p

module _ {s : Shape} {im : List ℕ} {w : Option Task} (h : Nearly s im w) (i : Task) (hi : i.0 < s.n) (at_ready : at s im (status i) ≡ is_ready)
    (no_peer : at s im (peer i) ≡ 0) {m : List ℕ} (k : Keeps s im i m) (f : Flagged s m i) where
  keeps_apart : Apart s own_parts im m
  keeps_apart = frame_more k (own_picked s im i)

  -- another task's words are not this one's
  other_row_kept : (j : Task) → j.0 < s.n → j.0 ≢ i.0 → (r : ℕ) → r < 9 → at s m (reg j r) ≡ at s im (reg j r)
  other_row_kept j hj ne r hr = k.others (reg j r) (hj, hr) go
    where
      go : ¬ OwnCell s im i (reg j r)
      go (inl (_, e)) = ne e
      go (inr (p, _)) = absurd (let z : ◌≡◌ {A = ℕ} 1 9 = ap ord p in omega arith)

  own_flags : (j : Task) → j.0 < s.n → Flagged s m j
  own_flags j hj =
      dite (ℕ_discrete j.0 i.0) (λ e. rw (same_task j i e) f) (λ ne. flagged_frame s im m j (other_row_kept j hj ne 8 (omega arith)) (h.flags j hj))

  own_statuses : (j : Task) → j.0 < s.n → ¬ Spared w j → Stands s m j
  own_statuses j hj sp =
      dite (ℕ_discrete j.0 i.0)
      (λ e. rw (same_task j i e) (ready_stands s m i (kept_status own_parts keeps_apart refl i hi ∙ at_ready) (kept_peer own_parts keeps_apart refl i hi ∙ no_peer)))
      (λ ne.
      kept_stands own_parts keeps_apart refl refl refl j hj
      record {
        of_status = kept_status own_parts keeps_apart refl j hj;
        of_peer = kept_peer own_parts keeps_apart refl j hj;
        of_flags = other_row_kept j hj ne 8 (omega arith);
        of_two = other_row_kept j hj ne 2 (omega arith);
        of_three = other_row_kept j hj ne 3 (omega arith);
      }
      (h.statuses j hj sp))

  pub own_nearly : Nearly s m w
  own_nearly =
      kept_nearly own_parts keeps_apart refl refl refl refl h (keeps_sound s im i m h.lies k) own_flags
      (kept_slots own_parts keeps_apart h refl) (kept_listed own_parts keeps_apart h refl refl)
      (kept_clocked own_parts keeps_apart h refl refl) own_statuses

-- the clock alone changes
module _ {s : Shape} {im m : List ℕ} (k : Frame s (λ c. c ≡ clock) im m) where
  pub clock_apart : Apart s header_part im m
  clock_apart = frame_more k (λ c e. ap (λ (x : Cell). header_part x.part) e)

  pub clock_sound : Sound s im → Sound s m
  clock_sound h =
      frame_sound k (λ c l e.
      let z : c.column ≡ 17 = ap (λ (x : Cell). x.column) e in
      let f : fixed c.part ≡ 17 = ap (λ (x : Cell). fixed x.part) e in
      omega arith) h

  pub clock_nearly : {w : Option Task} → Nearly s im w → at s m clock ≤ s.slice → (Empty s im Queue.Ready → at s m clock ≡ 0) → Nearly s m w
  clock_nearly h low idle =
      kept_nearly header_part clock_apart refl refl refl refl h (clock_sound h.lies) (λ j hj. kept_flags header_part clock_apart refl j hj (h.flags j hj))
      (kept_slots header_part clock_apart h refl) (kept_listed header_part clock_apart h refl refl) (low, λ e. idle (kept_none header_part clock_apart h refl e))
      (λ j hj sp. kept_stands header_part clock_apart refl refl refl j hj (kept_same header_part clock_apart refl refl j hj) (h.statuses j hj sp))

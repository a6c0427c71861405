-- A service of the first task keeps an image good: faulted, waiting, or done but for the task that is woken. Assumes nothing.
use Rattle.std.specs.Prelude.{◌≡◌, List, Bool, true, false, ◌≢◌, ℕ, ◌<◌, ◌≤◌, None, Option, Some}
use Rattle.std.proofs.Math.Path.{refl}
use Rattle.std.proofs.Common.{sym, ◌∙◌, inl, arith}
use Rattle.std.proofs.Math.Bool.{and-eq-true_iff}
use borrow.Author.Tests.{eqb-true, leb-false, ltb-false}
use Rattle.paper.specs.Image.{most_character, at, put, reg, flags, status, peer}
use Rattle.paper.specs.Queues.{part_of, Has, taken, empty, full}
use Rattle.paper.specs.Flags.{flags_of, pending, is_ready, waits}
use Rattle.paper.specs.Waking.{with_status, one_if}
use Rattle.paper.specs.Services.{other, given, fault_of, service_faulted, blocked, awaited, waiting, delivered, moved, served, waits_for, wakes}
use Rattle.paper.specs.Rules.{Good}
use Rattle.paper.specs.declared.Task.{Task}
use Rattle.paper.specs.declared.Shape.{Shape}
use Rattle.paper.specs.declared.Queue.{Queue}
use Rattle.paper.specs.declared.Service.{Service}
use Rattle.laws.specs.Cells.{at_same}
use Rattle.laws.specs.Sound.{sound}
use Rattle.laws.specs.Effects.{fields}
use Rattle.laws.specs.Frame.{Apart, SameCount, frame_none, frame_put, frame_taken, flagged_frame, kept, kept_status, kept_peer, kept_count}
use Rattle.laws.specs.Changes.{device_parts, moved_parts, error_none, buffer_has, status_is, peer_is, frame_moved}
use Rattle.laws.specs.Orders.{register_apart}
use Rattle.laws.specs.Room.{waits_not}
use Rattle.event_laws.specs.Standing.{Standing, Alone, waiting_stands}
use Rattle.event_laws.specs.Kept.{Nearly, good_nearly, nearly_good}
use Rattle.event_laws.specs.Own.{own_nearly}
use Rattle.event_laws.specs.Turns.{status_part, entry_apart, Leads, leads_sound, leads_in, leads_ready, leads_peer, left_good}
use Rattle.event_laws.specs.Moving.{free_from, free_to, free_input, free_output, append_nearly, take_nearly, taken_chars, output_nearly}

-- a ready task's flags written anew, and a register
module _ {s : Shape} {im : List ℕ} {w : Option Task} (h : Nearly s im w) (i : Task) (hi : i.0 < s.n) (at_ready : at s im (status i) ≡ is_ready)
    (no_peer : at s im (peer i) ≡ 0) where
  flags_nearly : (c e p : ℕ) → c ≤ 2 → e ≤ 6 → p ≤ 4 → (e ≢ 0 → p ≡ 0) → Nearly s (put s im (flags i) (flags_of c e p)) w
  flags_nearly c e p hc he hp both =
      let f = fields c e p (omega arith) (omega arith) in
      let r : at s (put s im (flags i) (flags_of c e p)) (flags i) ≡ flags_of c e p = at_same s im (flags i) _ (hi, omega arith) (sound h.lies).laid.words in
      own_nearly h i hi at_ready no_peer (frame_put frame_none (flags i) _ (hi, omega arith) (inl (refl, refl)))
      record {
        cc_range = rw r (omega (arith, f.0));
        error_range = rw r (omega (arith, f.1));
        pending_range = rw r (omega (arith, f.2));
        never_both = rw r (λ ne. f.2 ∙ both (λ z. ne (f.1 ∙ z)));
      }

  register_nearly : (r v : ℕ) → r < 8 → Nearly s (put s im (reg i r) v) w
  register_nearly r v hr =
      own_nearly h i hi at_ready no_peer (frame_put frame_none (reg i r) v (hi, omega arith) (inl (refl, refl)))
      (flagged_frame s im _ i (register_apart s im i hi h.lies (h.flags i hi) im r v hr) (h.flags i hi))

-- a task that waits is not ready
waited : (s : Shape) (im : List ℕ) (k : Task) (u : Service) (i : Task) → waits_for s im k u i ≡ true → at s im (status k) ≢ is_ready
unfolding waits_for
waited s im k u i e f = waits_not u (sym f ∙ eqb-true _ _ ((and-eq-true_iff _ _).0 e).0)

-- whom a test wakes
pub one_is : (b : Bool) (i k : Task) → one_if b i ≡ Some k → (b ≡ true) × (k ≡ i)
one_is true i k e = (refl, cc)
one_is false i k e = absurd (let z : ◌≡◌ {A = ℕ} 0 1 = cc in omega arith)

module _ {s : Shape} {im : List ℕ} {i : Task} (l : Leads s im i) where
  hi : i.0 < s.n
  hi = leads_in l

  -- faulted
  pub faulted_good : (e : ℕ) → e ≤ 6 → Good s (service_faulted s im i e)
  unfolding service_faulted
  faulted_good e he =
      nearly_good (flags_nearly (good_nearly l.rules) i hi (leads_ready l) (leads_peer l) _ e 0 (l.rules.flags i hi).cc_range he (omega arith) (λ ne. refl))

  -- its status written anew leaves its own words and the buffers as they were
  module _ (k p : ℕ) where
    entry_word : (r : ℕ) → r < 9 → at s (with_status s im i k p) (reg i r) ≡ at s im (reg i r)
    entry_word r hr = kept status_part (entry_apart s im i hi (leads_sound l) k p) (reg i r) (hi, hr) refl

    entry_peer : at s (with_status s im i k p) (peer i) ≡ p
    entry_peer = peer_is s im i hi (leads_sound l) k p

    entry_count : (q : Queue) → Has s q → status_part (part_of q) ≡ false → SameCount s im (with_status s im i k p) q
    entry_count q hq f = kept_count status_part (entry_apart s im i hi (leads_sound l) k p) q hq f

  -- waiting: its rule holds with the status that it takes
  waits_standing : (v : Service) → pending s im i ≡ waits v → fault_of s im i v ≡ None → blocked s im i v ≡ true
      → Standing s (with_status s im i (waits v) (awaited s im i v)) i v
  unfolding full empty
  waits_standing Service.Send asks right stuck =
      let n = leb-false s.n _ (error_none _ 5 right) in
      let c = entry_count 1 (at s im (reg i 2)) (Queue.Message i (other s im i)) (hi, n) refl in
      rw (entry_word 1 (at s im (reg i 2)) 8 (omega arith), entry_word 1 (at s im (reg i 2)) 2 (omega arith), entry_peer 1 (at s im (reg i 2)))
      (asks, (refl, n), rw (c.0, c.1) (eqb-true _ _ stuck))
  waits_standing Service.Receive asks right stuck =
      let n = leb-false s.n _ (error_none _ 5 right) in
      let c = entry_count 2 (at s im (reg i 2)) (Queue.Message (other s im i) i) (n, hi) refl in
      rw (entry_word 2 (at s im (reg i 2)) 8 (omega arith), entry_word 2 (at s im (reg i 2)) 2 (omega arith), entry_peer 2 (at s im (reg i 2)))
      (asks, (refl, n), rw c.0 (eqb-true _ _ stuck))
  waits_standing Service.Input asks right stuck =
      let c = entry_count 3 0 (Queue.Input i) hi refl in
      rw (entry_word 3 0 8 (omega arith)) (asks, rw c.0 (eqb-true _ _ stuck))
  waits_standing Service.Output asks right stuck =
      let c = entry_count 4 0 (Queue.Output i) hi refl in
      rw (entry_word 4 0 8 (omega arith), entry_word 4 0 3 (omega arith))
      (asks, ltb-false most_character _ (error_none _ 6 right), rw (c.0, c.1) (eqb-true _ _ stuck))

  alone_peer : (v : Service) → Alone v → at s (with_status s im i (waits v) (awaited s im i v)) (peer i) ≡ 0
  alone_peer Service.Send a = elim a [ ]
  alone_peer Service.Receive a = elim a [ ]
  alone_peer Service.Input a = entry_peer 3 0
  alone_peer Service.Output a = entry_peer 4 0

  module _ (v : Service) where
    pub waiting_good : pending s im i ≡ waits v → fault_of s im i v ≡ None → blocked s im i v ≡ true → Good s (waiting s im i v)
    unfolding waiting
    waiting_good asks right stuck =
        left_good l (waits v) (awaited s im i v) (λ e. waits_not v (sym e))
        (waiting_stands s _ i v (status_is s im i hi (leads_sound l) (waits v) (awaited s im i v)) (waits_standing v asks right stuck) (alone_peer v))

  -- a word taken and delivered
  delivered_nearly : (q : Queue) → Has s q → device_parts (part_of q) ≡ true → (w : Option Task) → Nearly s (taken s im q) w → Nearly s (delivered s im i q) w
  unfolding delivered
  delivered_nearly q hq t w h =
      let a : Apart s device_parts im (taken s im q) = frame_taken frame_none q hq (leads_sound l) (λ r. t) in
      register_nearly h i hi (kept_status device_parts a refl i hi ∙ leads_ready l) (kept_peer device_parts a refl i hi ∙ leads_peer l) 3 _ (omega arith)

  -- the word of a service moves: good but for whom it wakes
  moved_nearly : (v : Service) → fault_of s im i v ≡ None → blocked s im i v ≡ false → Nearly s (moved s im i v) (wakes s im i v)
  moved_nearly Service.Send right clear =
      append_nearly (good_nearly l.rules) (Queue.Message i (other s im i)) (buffer_has s im i hi Service.Send right) refl _ (free_from s im i (leads_ready l) (other s im i)) _ clear tt
  moved_nearly Service.Receive right clear =
      let has = buffer_has s im i hi Service.Receive right in
      delivered_nearly (Queue.Message (other s im i) i) has refl _
      (take_nearly (good_nearly l.rules) (Queue.Message (other s im i) i) has refl _ (free_to s im i (leads_ready l) (other s im i)) clear tt)
  moved_nearly Service.Input right clear =
      delivered_nearly (Queue.Input i) hi refl None
      (take_nearly (good_nearly l.rules) (Queue.Input i) hi refl None (free_input s im i None (λ e. absurd (waits_not Service.Input (sym (leads_ready l) ∙ e)))) clear
      (taken_chars s im (leads_sound l) (Queue.Input i) hi clear (l.rules.inputs_held i hi)).1)
  moved_nearly Service.Output right clear =
      output_nearly (good_nearly l.rules) i hi None (free_output s im i None (λ e. absurd (waits_not Service.Output (sym (leads_ready l) ∙ e))))
      (given s im i) (ltb-false most_character _ (error_none _ 6 right)) clear

  module _ (v : Service) (right : fault_of s im i v ≡ None) where
    pub served_nearly : blocked s im i v ≡ false → Nearly s (served s im i v) (wakes s im i v)
    unfolding served
    served_nearly clear =
        let a : Apart s moved_parts im (moved s im i v) = frame_moved frame_none (leads_sound l) i hi (λ c t. rw t) (λ r. refl) v right clear in
        let f = l.rules.flags i hi in
        flags_nearly (moved_nearly v right clear) i hi (kept_status moved_parts a refl i hi ∙ leads_ready l) (kept_peer moved_parts a refl i hi ∙ leads_peer l) _ _ 0
        f.cc_range f.error_range (omega arith) (λ _. refl)

    -- whom it wakes is a task of this image that is not ready
    pub wakes_whom : (k : Task) → wakes s im i v ≡ Some k → (k.0 < s.n) × (at s im (status k) ≢ is_ready)
    wakes_whom k e = go v right e
      where
        other_whom : (u : Service) → (other s im i).0 < s.n → one_if (waits_for s im (other s im i) u i) (other s im i) ≡ Some k
            → (k.0 < s.n) × (at s im (status k) ≢ is_ready)
        other_whom u n e =
            let o = one_is _ (other s im i) k e in
            rw o.1 (n, waited s im (other s im i) u i o.0)

        go : (v : Service) → fault_of s im i v ≡ None → wakes s im i v ≡ Some k → (k.0 < s.n) × (at s im (status k) ≢ is_ready)
        go Service.Send r e = other_whom Service.Receive (leb-false s.n _ (error_none _ 5 r)) e
        go Service.Receive r e = other_whom Service.Send (leb-false s.n _ (error_none _ 5 r)) e
        go Service.Input r e = absurd (let z : ◌≡◌ {A = ℕ} 0 1 = cc in omega arith)
        go Service.Output r e = absurd (let z : ◌≡◌ {A = ℕ} 0 1 = cc in omega arith)

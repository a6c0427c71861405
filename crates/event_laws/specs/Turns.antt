-- Leaving, waking and passing the turn: what they do to the ready queue, and that they keep an image good. Assumes nothing.
use Rattle.std.specs.Prelude.{◌≡◌, Bool, cond, ◌≢◌, ◌⊎◌, ℕ, ◌+◌, ◌<◌, ◌≤◌, eqb, None, Option, Some}
use Rattle.std.proofs.Math.Path.{refl, sym, ap}
use Rattle.std.proofs.Common.{◌∙◌, true≢false, inr, eq-eqb, ne_eqb}
use mathlib.Core.List.{List, [], ◌∷◌, ◌++◌}
use Rattle.std.proofs.Math.Bool.{true, false}
use Rattle.std.proofs.Math.Logic.{inl, dite}
use Rattle.std.proofs.Math.Decide.{ℕ_discrete, dec_lt}
use native.Mathlib.Omega.{arith}
use Rattle.std.proofs.Math.ListN.{get_or}
use Rattle.paper.specs.Image.{ord, width, cell, at, put, clock, flags, reg, status, peer}
use Rattle.paper.specs.Queues.{count, capacity, queue_word, appended, first, taken, held, free, empty, full}
use Rattle.paper.specs.Flags.{is_ready}
use Rattle.paper.specs.Waking.{dispatched, with_status, readied, woken, left}
use Rattle.paper.specs.Events.{turned}
use Rattle.paper.specs.Rules.{Zeros, times, Ready, Stands, Good}
use Rattle.paper.specs.declared.Task.{Task}
use Rattle.paper.specs.declared.Shape.{Shape}
use Rattle.paper.specs.declared.Cell.{Cell}
use Rattle.paper.specs.declared.Part.{Part}
use Rattle.paper.specs.declared.Queue.{Queue}
use Rattle.laws.specs.Cases.{when}
use Rattle.laws.specs.Cells.{at_same}
use Rattle.laws.specs.Consecutive.{times_append}
use Rattle.laws.specs.Queues.{same_task, appended_held, appended_count, appended_cleared, taken_held, taken_count, taken_cleared}
use Rattle.laws.specs.Checked.{good_sound}
use Rattle.laws.specs.Sound.{Sound, sound, has_space, has_word, put_sound, appended_sound, taken_sound}
use Rattle.laws.specs.Frame.{Frame, Apart, frame_none, frame_more, frame_put, frame_appended, frame_taken, kept, kept_flags, kept_clock, kept_status, kept_peer, kept_count, kept_empty, kept_full, kept_held, kept_free, kept_same}
use Rattle.laws.specs.Room.{Listed}
use Rattle.laws.proofs.Room.{listed_room}
use Rattle.laws.specs.Changes.{header_part, dispatch_parts, turn_parts, status_sound, status_is, peer_is, frame_status, frame_left}
use Rattle.event_laws.specs.Standing.{ready_stands}
use Rattle.event_laws.specs.Kept.{Spared, Clocked, Nearly, good_nearly, nearly_good, kept_stands, kept_nearly}
use Rattle.event_laws.specs.Own.{clock_apart, clock_nearly}

-- a cell that a turn of task i changes: of the header and the ready queue, or its entry of the status table
abbrev pub TurnCell : Task → Cell → Type 0
TurnCell i c = (dispatch_parts c.part ≡ true) ⊎ ((c.part ≡ Part.StatusTable) × (c.row ≡ i.0))

-- the ready queue's words, clock and statuses anew for one task, the others as they were
module _ {s : Shape} {im m : List ℕ} (i : Task) (k : Frame s (TurnCell i) im m) where
  pub turn_apart : Apart s turn_parts im m
  turn_apart = frame_more k go
    where
      go : (c : Cell) → TurnCell i c → turn_parts c.part ≡ true
      go c (inl t) = rw t
      go c (inr (e, _)) = ap turn_parts e

  entry_kept : (j : Task) → j.0 < s.n → j.0 ≢ i.0 → (r : ℕ) → r < width s Part.StatusTable → at s m (cell Part.StatusTable j.0 r) ≡ at s im (cell Part.StatusTable j.0 r)
  entry_kept j hj ne r hr = k.others _ (hj, hr) go
    where
      go : ¬ TurnCell i (cell Part.StatusTable j.0 r)
      go (inl t) = true≢false (sym t)
      go (inr (_, e)) = ne e

  module _ (w w' : Option Task) (h : Nearly s im w) (hi : i.0 < s.n) (lies : Sound s m) (cleared : Zeros (free s m Queue.Ready))
      (others : (x : ℕ) → x ≢ i.0 → times x (held s m Queue.Ready) ≡ times x (held s im Queue.Ready))
      (itself : (at s m (status i) ≡ is_ready → times i.0 (held s m Queue.Ready) ≡ 1) × (at s m (status i) ≢ is_ready → times i.0 (held s m Queue.Ready) ≡ 0))
      (clocked : Clocked s m) (stands : Stands s m i) (more : (j : Task) → ¬ Spared w' j → j.0 ≢ i.0 → ¬ Spared w j) where
    turn_listed : Listed s m
    turn_listed j =
        dite (ℕ_discrete j.0 i.0) (λ e. rw (same_task j i e) (λ r. itself.0 r.1, λ n. itself.1 (λ z. n (hi, z))))
        (λ ne. (
          λ r. others j.0 ne ∙ (h.listed j).0 (r.0, sym (entry_kept j r.0 ne 0 (omega arith)) ∙ r.1),
          λ n. others j.0 ne ∙ (h.listed j).1 (λ r. n (r.0, entry_kept j r.0 ne 0 (omega arith) ∙ r.1)),
        ))

    turn_stands : (j : Task) → j.0 < s.n → ¬ Spared w' j → Stands s m j
    turn_stands j hj sp =
        dite (ℕ_discrete j.0 i.0) (λ e. rw (same_task j i e) stands)
        (λ ne.
        kept_stands turn_parts turn_apart refl refl refl j hj
        record {
          of_status = entry_kept j hj ne 0 (omega arith);
          of_peer = entry_kept j hj ne 1 (omega arith);
          of_flags = kept turn_parts turn_apart (flags j) (hj, omega arith) refl;
          of_two = kept turn_parts turn_apart (reg j 2) (hj, omega arith) refl;
          of_three = kept turn_parts turn_apart (reg j 3) (hj, omega arith) refl;
        }
        (h.statuses j hj (more j sp ne)))

    turn_nearly : Nearly s m w'
    turn_nearly =
        kept_nearly turn_parts turn_apart refl refl refl refl h lies (λ j hj. kept_flags turn_parts turn_apart refl j hj (h.flags j hj)) cleared turn_listed clocked turn_stands

-- dispatch
slice_range : (b : Bool) (v : ℕ) → cond b 0 v ≤ v
slice_range b v = when (λ n. n ≤ v) b (λ _. omega arith) (λ _. omega arith)

clock_put : (s : Shape) (im : List ℕ) (v : ℕ) → Frame s (λ c. c ≡ clock) im (put s im clock v)
clock_put s im v = frame_put frame_none clock v (omega arith, omega arith) refl

pub dispatched_clock : (s : Shape) (im : List ℕ) → Sound s im → at s (dispatched s im) clock ≡ cond (eqb (at s im (count s Queue.Ready)) 0) 0 s.slice
unfolding dispatched empty
dispatched_clock s im h = at_same s im clock _ (omega arith, omega arith) (sound h).laid.words

dispatched_clocked : (s : Shape) (im : List ℕ) → Sound s im → Clocked s (dispatched s im)
unfolding dispatched
dispatched_clocked s im h =
    let c = dispatched_clock s im h in
    let n = (kept_count header_part (clock_apart (clock_put s im _)) Queue.Ready tt refl).0 in
    (rw c (slice_range (eqb (at s im (count s Queue.Ready)) 0) s.slice), λ e. c ∙ rw (eq-eqb (at s im (count s Queue.Ready)) 0 (sym n ∙ e)))

pub dispatched_nearly : {s : Shape} {im : List ℕ} {w : Option Task} → Nearly s im w → Nearly s (dispatched s im) w
unfolding dispatched empty
dispatched_nearly {s} {im} h =
    let c = dispatched_clock s im h.lies in
    clock_nearly (clock_put s im _) h (dispatched_clocked s im h.lies).0 (λ e. c ∙ rw (eq-eqb (at s im (count s Queue.Ready)) 0 e))

abbrev pub status_part : Part → Bool
status_part p = eqb (ord p) 3

abbrev ready_part : Part → Bool
ready_part p = eqb (ord p) 2

dispatched_held : (s : Shape) (im : List ℕ) → Sound s im → held s (dispatched s im) Queue.Ready ≡ held s im Queue.Ready
unfolding dispatched
dispatched_held s im h = kept_held header_part (clock_apart (clock_put s im _)) Queue.Ready tt refl h

dispatched_free : (s : Shape) (im : List ℕ) → Sound s im → free s (dispatched s im) Queue.Ready ≡ free s im Queue.Ready
unfolding dispatched
dispatched_free s im h = kept_free header_part (clock_apart (clock_put s im _)) Queue.Ready tt refl h

-- a task's entry of the status table written: the ready queue is as it was
module _ (s : Shape) (im : List ℕ) (j : Task) (hj : j.0 < s.n) (h : Sound s im) (k p : ℕ) where
  pub entry_frame : Frame s (TurnCell j) im (with_status s im j k p)
  entry_frame = frame_status frame_none j hj k p (λ r. inr (refl, refl))

  pub entry_apart : Apart s status_part im (with_status s im j k p)
  entry_apart = frame_status frame_none j hj k p (λ r. refl)

  entry_held : held s (with_status s im j k p) Queue.Ready ≡ held s im Queue.Ready
  entry_held = kept_held status_part entry_apart Queue.Ready tt refl h

  entry_free : free s (with_status s im j k p) Queue.Ready ≡ free s im Queue.Ready
  entry_free = kept_free status_part entry_apart Queue.Ready tt refl h

-- a task that joins the ready queue
module _ (s : Shape) (im : List ℕ) (j : Task) (hj : j.0 < s.n) (h : Sound s im) where
  entry_sound : Sound s (with_status s im j is_ready 0)
  entry_sound = status_sound s im j hj h is_ready 0

  joined_frame : Frame s (TurnCell j) im (readied s im j)
  unfolding readied
  joined_frame = frame_appended (entry_frame s im j hj h is_ready 0) Queue.Ready tt entry_sound (λ r. inl refl) j.0

  joined_late : Apart s dispatch_parts (with_status s im j is_ready 0) (readied s im j)
  unfolding readied
  joined_late = frame_appended frame_none Queue.Ready tt entry_sound (λ r. refl) j.0

  joined_status : at s (readied s im j) (status j) ≡ is_ready
  joined_status = kept_status dispatch_parts joined_late refl j hj ∙ status_is s im j hj h is_ready 0

  -- before a dispatch the clock is as it was
  pub joined_clock : at s (readied s im j) clock ≡ at s im clock
  unfolding readied
  joined_clock =
      kept_clock ready_part (frame_appended frame_none Queue.Ready tt entry_sound (λ r. refl) j.0) refl ∙
      kept_clock status_part (entry_apart s im j hj h is_ready 0) refl

  -- woken, a task is ready
  pub woken_ready : at s (woken s im j) (status j) ≡ is_ready
  unfolding woken dispatched
  woken_ready =
      when (λ m. at s m (status j) ≡ is_ready) (empty s im Queue.Ready)
      (λ _. kept_status header_part (clock_apart (clock_put s (readied s im j) _)) refl j hj ∙ joined_status) (λ _. joined_status)

-- where there is room
module _ (s : Shape) (im : List ℕ) (j : Task) (hj : j.0 < s.n) (h : Sound s im) (room : full s im Queue.Ready ≡ false) where
  entry : Sound s (with_status s im j is_ready 0)
  entry = entry_sound s im j hj h

  entry_room : at s (with_status s im j is_ready 0) (count s Queue.Ready) < at s (with_status s im j is_ready 0) (capacity s Queue.Ready)
  entry_room = has_space s _ entry Queue.Ready tt (kept_full status_part (entry_apart s im j hj h is_ready 0) Queue.Ready tt refl ∙ room)

  joined_sound : Sound s (readied s im j)
  unfolding readied
  joined_sound = appended_sound s _ Queue.Ready tt entry j.0 entry_room

  joined_list : held s (readied s im j) Queue.Ready ≡ held s im Queue.Ready ++ (j.0 ∷ [])
  unfolding readied
  joined_list =
      appended_held s _ Queue.Ready tt (sound entry).laid.words ((sound entry).queues Queue.Ready tt) j.0 entry_room ∙
      rw (entry_held s im j hj h is_ready 0)

  joined_cleared : Zeros (free s im Queue.Ready) → Zeros (free s (readied s im j) Queue.Ready)
  unfolding readied
  joined_cleared z =
      appended_cleared s _ Queue.Ready tt (sound entry).laid.words ((sound entry).queues Queue.Ready tt) j.0 entry_room
      (rw (entry_free s im j hj h is_ready 0) z)

  joined_some : at s (readied s im j) (count s Queue.Ready) ≢ 0
  unfolding readied
  joined_some e =
      let c = appended_count s _ Queue.Ready tt (sound entry).laid.words ((sound entry).queues Queue.Ready tt) j.0 in
      omega arith

  -- it stands at the tail of the ready queue
  pub woken_tail : held s (woken s im j) Queue.Ready ≡ held s im Queue.Ready ++ (j.0 ∷ [])
  unfolding woken
  woken_tail = go (empty s im Queue.Ready)
    where
      go : (b : Bool) → held s (cond b (dispatched s (readied s im j)) (readied s im j)) Queue.Ready ≡ held s im Queue.Ready ++ (j.0 ∷ [])
      go true = dispatched_held s _ joined_sound ∙ joined_list
      go false = joined_list

-- and the image is good, where it was but for that task, which finds room
module _ {s : Shape} {im : List ℕ} (j : Task) (hj : j.0 < s.n) (h : Nearly s im (Some j)) (waited : at s im (status j) ≢ is_ready) where
  room : full s im Queue.Ready ≡ false
  room = listed_room s im h.listed j hj waited ((sound h.lies).queues Queue.Ready tt)

  joined_times : (x : ℕ) → times x (held s (readied s im j) Queue.Ready) ≡ times x (held s im Queue.Ready) + (cond (eqb x j.0) 1 0 + 0)
  joined_times x = rw (joined_list s im j hj h.lies room, times_append)

  readied_nearly : Nearly s (readied s im j) None
  readied_nearly =
      let f = joined_frame s im j hj h.lies in
      let c = joined_clock s im j hj h.lies in
      let now = joined_status s im j hj h.lies in
      turn_nearly j f (Some j) None h hj (joined_sound s im j hj h.lies room)
      (joined_cleared s im j hj h.lies room (h.cleared Queue.Ready tt))
      (λ x ne. joined_times x ∙ rw (ne_eqb x j.0 ne) (omega arith))
      (λ _. joined_times j.0 ∙ rw (eq-eqb j.0 j.0 refl, (h.listed j).1 (λ r. waited r.1)), λ n. absurd (n now))
      (rw c h.clocked.0, λ e. absurd (joined_some s im j hj h.lies room e))
      (ready_stands s (readied s im j) j now
      (kept_peer dispatch_parts (joined_late s im j hj h.lies) refl j hj ∙ peer_is s im j hj h.lies is_ready 0)) (λ i sp ne. ne)

  pub woken_nearly : Nearly s (woken s im j) None
  unfolding woken
  woken_nearly = when (λ m. Nearly s m None) (empty s im Queue.Ready) (λ _. dispatched_nearly readied_nearly) (λ _. readied_nearly)

-- task i is the first of a good image
pub record Leads (s : Shape) (im : List ℕ) (i : Task) : Type 0 where
  pub rules : Good s im
  pub some : empty s im Queue.Ready ≡ false
  pub named : first s im Queue.Ready ≡ i.0

module _ {s : Shape} {im : List ℕ} {i : Task} (l : Leads s im i) where
  pub leads_sound : Sound s im
  leads_sound = good_sound s im l.rules

  pub leads_list : held s im Queue.Ready ≡ i.0 ∷ held s (taken s im Queue.Ready) Queue.Ready
  leads_list =
      taken_held s im Queue.Ready tt (sound leads_sound).laid.words ((sound leads_sound).queues Queue.Ready tt) (has_word s im leads_sound Queue.Ready tt l.some) ∙
      rw l.named

  leads_once : ¬ Ready s im i → ⊥
  leads_once n =
      let none : times i.0 (i.0 ∷ held s (taken s im Queue.Ready) Queue.Ready) ≡ 0 = rw leads_list at (l.rules.no_other i n) in
      let f : 1 + times i.0 (held s (taken s im Queue.Ready) Queue.Ready) ≡ 0 = rw (eq-eqb i.0 i.0 refl) at none in
      omega arith

  leads_is : Ready s im i
  leads_is =
      dite (dec_lt i.0 s.n) (λ a. dite (ℕ_discrete (at s im (status i)) is_ready) (λ b. (a, b)) (λ n. absurd (leads_once (λ r. n r.1)))) (λ n. absurd (leads_once (λ r. n r.0)))

  pub leads_in : i.0 < s.n
  leads_in = leads_is.0

  pub leads_ready : at s im (status i) ≡ is_ready
  leads_ready = leads_is.1

  pub leads_peer : at s im (peer i) ≡ 0
  leads_peer =
      let r = leads_ready in
      (l.rules.statuses i leads_in).peerless (λ e. omega arith) (λ e. omega arith)

-- it leaves, with a new status
module _ {s : Shape} {im : List ℕ} {i : Task} (l : Leads s im i) (k p : ℕ) where
  entered : Sound s (with_status s im i k p)
  entered = status_sound s im i (leads_in l) (leads_sound l) k p

  entered_word : 0 < at s (with_status s im i k p) (count s Queue.Ready)
  entered_word = has_word s _ entered Queue.Ready tt (kept_empty status_part (entry_apart s im i (leads_in l) (leads_sound l) k p) Queue.Ready tt refl ∙ l.some)

  went : Sound s (taken s (with_status s im i k p) Queue.Ready)
  went = taken_sound s _ Queue.Ready tt entered entered_word

  pub left_sound : Sound s (left s (with_status s im i k p))
  unfolding left dispatched
  left_sound = put_sound s _ clock _ (omega arith, omega arith) (omega arith) went

  pub left_list : held s im Queue.Ready ≡ i.0 ∷ held s (left s (with_status s im i k p)) Queue.Ready
  unfolding left
  left_list =
      let m = with_status s im i k p in
      let e : held s im Queue.Ready ≡ first s m Queue.Ready ∷ held s (taken s m Queue.Ready) Queue.Ready =
      sym (entry_held s im i (leads_in l) (leads_sound l) k p) ∙ taken_held s m Queue.Ready tt (sound entered).laid.words ((sound entered).queues Queue.Ready tt) entered_word in
      let f : first s m Queue.Ready ≡ i.0 = ap (λ (x : List ℕ). get_or x 0 0) (sym e ∙ leads_list l) in
      e ∙ rw (f, dispatched_held s (taken s m Queue.Ready) went)

  left_cleared : Zeros (free s (left s (with_status s im i k p)) Queue.Ready)
  unfolding left
  left_cleared =
      rw (dispatched_free s (taken s (with_status s im i k p) Queue.Ready) went)
      (taken_cleared s _ Queue.Ready tt (sound entered).laid.words ((sound entered).queues Queue.Ready tt) entered_word
      (rw (entry_free s im i (leads_in l) (leads_sound l) k p) (l.rules.cleared Queue.Ready tt)))

  pub left_late : Apart s dispatch_parts (with_status s im i k p) (left s (with_status s im i k p))
  left_late = frame_left frame_none entered (λ r. refl) refl

  left_clocked : Clocked s (left s (with_status s im i k p))
  unfolding left
  left_clocked = dispatched_clocked s _ went

  -- where its new status' rules hold, the image is good
  pub left_good : k ≢ is_ready → Stands s (with_status s im i k p) i → Good s (left s (with_status s im i k p))
  left_good gone st =
      let h = good_nearly l.rules in
      let hi = leads_in l in
      let st' = kept_status dispatch_parts left_late refl i hi ∙ status_is s im i hi (leads_sound l) k p in
      nearly_good
      (turn_nearly i (frame_left (entry_frame s im i hi (leads_sound l) k p) entered (λ r. inl refl) (inl refl)) None None h hi left_sound left_cleared
      (λ x ne. omega (arith, rw (ne_eqb x i.0 ne) at (ap (times x) left_list)))
      (λ r. absurd (gone (sym st' ∙ r)), λ _. omega (arith, rw (eq-eqb i.0 i.0 refl) at (ap (times i.0) left_list), (h.listed i).0 (hi, leads_ready l)))
      left_clocked (kept_stands dispatch_parts left_late refl refl refl i hi (kept_same dispatch_parts left_late refl refl i hi) st) (λ j sp ne. sp))

-- it goes to the end
module _ {s : Shape} {im : List ℕ} {i : Task} (l : Leads s im i) where
  passed : Sound s (taken s im Queue.Ready)
  passed = taken_sound s im Queue.Ready tt (leads_sound l) (has_word s im (leads_sound l) Queue.Ready tt l.some)

  passed_room : at s (taken s im Queue.Ready) (count s Queue.Ready) < at s (taken s im Queue.Ready) (capacity s Queue.Ready)
  passed_room =
      let r = (sound (leads_sound l)).queues Queue.Ready tt in
      let c = taken_count s im Queue.Ready tt (sound (leads_sound l)).laid.words r in
      let d = ((sound passed).queues Queue.Ready tt).sized in
      omega (arith, c, d, r.sized, r.counted, has_word s im (leads_sound l) Queue.Ready tt l.some)

  joined_again : Sound s (appended s (taken s im Queue.Ready) Queue.Ready i.0)
  joined_again = appended_sound s _ Queue.Ready tt passed i.0 passed_room

  pub turned_sound : Sound s (turned s im i)
  unfolding turned
  turned_sound = put_sound s _ clock _ (omega arith, omega arith) (omega arith) joined_again

  pub turned_frame : {E : Cell → Type 0} → ((r : ℕ) → E (queue_word s Queue.Ready r)) → E clock → Frame s E im (turned s im i)
  unfolding turned
  turned_frame ready time =
      frame_put (frame_appended (frame_taken frame_none Queue.Ready tt (leads_sound l) ready) Queue.Ready tt passed ready i.0) clock _
      (omega arith, omega arith) time

  pub turned_list : held s (turned s im i) Queue.Ready ≡ held s (taken s im Queue.Ready) Queue.Ready ++ (i.0 ∷ [])
  unfolding turned
  turned_list =
      kept_held header_part (clock_apart (clock_put s _ s.slice)) Queue.Ready tt refl joined_again ∙
      appended_held s _ Queue.Ready tt (sound passed).laid.words ((sound passed).queues Queue.Ready tt) i.0 passed_room

  turned_cleared : Zeros (free s (turned s im i) Queue.Ready)
  unfolding turned
  turned_cleared =
      let r = sound (leads_sound l) in
      rw (kept_free header_part (clock_apart (clock_put s _ s.slice)) Queue.Ready tt refl joined_again)
      (appended_cleared s _ Queue.Ready tt (sound passed).laid.words ((sound passed).queues Queue.Ready tt) i.0 passed_room
      (taken_cleared s im Queue.Ready tt r.laid.words (r.queues Queue.Ready tt) (has_word s im (leads_sound l) Queue.Ready tt l.some)
      (l.rules.cleared Queue.Ready tt)))

  turned_times : (x : ℕ) → times x (held s (turned s im i) Queue.Ready) ≡ times x (held s im Queue.Ready)
  turned_times x =
      let t = times_append x (held s (taken s im Queue.Ready) Queue.Ready) (i.0 ∷ []) in
      rw (turned_list, leads_list l) (omega (arith, t))

  pub turned_clock : at s (turned s im i) clock ≡ s.slice
  unfolding turned
  turned_clock = at_same s _ clock s.slice (omega arith, omega arith) (sound joined_again).laid.words

  turned_clocked : Clocked s (turned s im i)
  unfolding turned
  turned_clocked =
      let c = turned_clock in
      let n : at s (turned s im i) (count s Queue.Ready) ≡ at s (appended s (taken s im Queue.Ready) Queue.Ready i.0) (count s Queue.Ready) =
      (kept_count header_part (clock_apart (clock_put s _ s.slice)) Queue.Ready tt refl).0 in
      let k = appended_count s _ Queue.Ready tt (sound passed).laid.words ((sound passed).queues Queue.Ready tt) i.0 in
      (omega (arith, c), λ e. absurd (omega (arith, n, k, e)))

  pub turned_good : Good s (turned s im i)
  turned_good =
      let h = good_nearly l.rules in
      let hi = leads_in l in
      let a : Apart s dispatch_parts im (turned s im i) = turned_frame (λ r. refl) refl in
      nearly_good
      (turn_nearly i (turned_frame (λ r. inl refl) (inl refl)) None None h hi turned_sound turned_cleared (λ x ne. turned_times x)
      (λ _. turned_times i.0 ∙ (h.listed i).0 (hi, leads_ready l), λ n. absurd (n (kept_status dispatch_parts a refl i hi ∙ leads_ready l)))
      turned_clocked (kept_stands dispatch_parts a refl refl refl i hi (kept_same dispatch_parts a refl refl i hi) (h.statuses i hi (λ z. z))) (λ j sp ne. sp))

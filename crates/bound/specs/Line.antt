-- Which cells an event changes; a task in the ready queue with others ahead of it is not first, and so no event touches a word of it. Assumes nothing.
use Rattle.std.specs.Prelude.{◌≡◌, refl, List, [], ◌∷◌, false, ◌≢◌, ◌⊎◌, ℕ, zero, suc, ◌+◌, ◌<◌, ◌≤◌, length, get_or, Some}
use Rattle.std.proofs.Common.{sym, ap, ◌∙◌, true≢false, inr, arith, eq-eqb}
use Rattle.std.proofs.Math.Logic.{inl, dite}
use Rattle.std.proofs.Math.Decide.{ℕ_discrete, dec_lt}
use Rattle.paper.specs.Image.{at, clock, status, base, len}
use Rattle.paper.specs.Queues.{appended, first, taken, held, empty, full}
use Rattle.paper.specs.Flags.{is_ready}
use Rattle.paper.specs.Waking.{woken}
use Rattle.paper.specs.Events.{running, input, port_next, output_done, happening}
use Rattle.paper.specs.Rules.{times, Ready, Good}
use Rattle.paper.specs.declared.Task.{Task}
use Rattle.paper.specs.declared.Shape.{Shape}
use Rattle.paper.specs.declared.Cell.{Cell}
use Rattle.paper.specs.declared.Part.{Part}
use Rattle.paper.specs.declared.Queue.{Queue}
use Rattle.paper.specs.declared.Event.{Event}
use Rattle.laws.specs.Sound.{Sound, appended_sound, has_space}
use Rattle.laws.specs.Orders.{OwnCell}
use Rattle.laws.specs.Agree.{lies_same, own_same, own_apart}
use Rattle.laws.specs.Checked.{good_sound}
use Rattle.laws.specs.Events.{Formed}
use Rattle.laws.specs.Frame.{Frame, Apart, frame_none, frame_more, frame_appended}
use Rattle.laws.specs.Changes.{frame_woken, frame_next}
use Rattle.event_laws.specs.Turns.{leads_list}
use Rattle.event_laws.specs.Walk.{input_any, done_any, event_any}
use Rattle.event_laws.proofs.Stays.{first_leads, first_task, next_owner}
use Rattle.event_laws.specs.Touched.{event_parts, TickCell}
use Rattle.event_laws.proofs.Touched.{tick_frame}
use Rattle.event_laws.proofs.First.{held_some, held_first, off_table}
use Rattle.bound.specs.Bound.{Behind, IsFirst, Untouched}

-- a wake changes the task's entry of the status table, the ready queue and perhaps the clock, and no other cell
pub woken_cells : (s : Shape) (im : List ℕ) (j : Task) → j.0 < s.n → Sound s im
    → Frame s (λ c. ((c.part ≡ Part.StatusTable) × (c.row ≡ j.0)) ⊎ ((c.part ≡ Part.ReadyQueue) ⊎ (c ≡ clock))) im (woken s im j)
woken_cells s im j hj h = frame_woken frame_none h (λ r. inr (inl refl)) (inr (inr refl)) j hj (λ r. inl (refl, refl))

module _ (s : Shape) (im : List ℕ) (g : Good s im) where
  -- an event of a device changes none of a task's
  module _ (i : Task) (hi : i.0 < s.n) where
    pub input_sound : (c : ℕ) → full s im (Queue.Input i) ≡ false → Sound s (appended s im (Queue.Input i) c)
    input_sound c clear =
        let h = good_sound s im g in
        appended_sound s im (Queue.Input i) hi h c (has_space s im h (Queue.Input i) hi clear)

    pub next_sound : Sound s (port_next s im i)
    next_sound = (next_owner s im g i hi (Some i) (λ _. refl)).lies

    pub input_frame : (c : ℕ) → Apart s event_parts im (input s im i c).image
    input_frame c =
        let k : Apart s event_parts im (appended s im (Queue.Input i) c) = frame_appended frame_none (Queue.Input i) hi (good_sound s im g) (λ r. refl) c in
        input_any s im i (λ o. Apart s event_parts im o.image) c (λ _. frame_none) (λ _ _. k)
        (λ clear _. frame_woken k (input_sound c clear) (λ r. refl) refl i hi (λ r. refl))

    pub done_frame : Apart s event_parts im (output_done s im i).image
    done_frame =
        let k : Apart s event_parts im (port_next s im i) = frame_next frame_none (good_sound s im g) i hi (λ r. refl) (λ r. refl) in
        done_any s im i (λ o. Apart s event_parts im o.image) (λ _. frame_none) (λ _ _. k)
        (λ _ _. frame_woken k next_sound (λ r. refl) refl i hi (λ r. refl))

  -- whatever event comes
  pub event_frame : (e : Event) → Formed s e → Frame s (TickCell s im (running s im)) im (happening s im e).image
  unfolding Formed
  event_frame =
      event_any s im (λ e o. Formed s e → Frame s (TickCell s im (running s im)) im o.image) (λ _. tick_frame s im g)
      (λ i c f. frame_more (input_frame i f.0 c) (λ d e. inl e)) (λ i f. frame_more (done_frame i f) (λ d e. inl e)) (λ _. frame_none)

-- a word of a list occurs in it
times_some : (l : List ℕ) (k x : ℕ) → k < length l → get_or l k 0 ≡ x → 1 ≤ times x l
times_some [] k x h e = absurd (omega arith)
times_some (w ∷ ws) zero x h e = rw (eq-eqb x w (sym e)) (omega arith)
times_some (w ∷ ws) (suc k) x h e = omega (arith, times_some ws k x (omega arith) e)

-- a task in the ready queue is a task of this image, and ready
module _ (s : Shape) (im : List ℕ) (g : Good s im) (i : Task) (k : ℕ) (b : Behind s im i k) where
  behind_times : times i.0 (held s im Queue.Ready) ≢ 0
  behind_times e = omega (arith, times_some (held s im Queue.Ready) k i.0 b.0 b.1, e)

  pub behind_task : i.0 < s.n
  behind_task = dite (dec_lt i.0 s.n) (λ l. l) (λ n. absurd (behind_times (g.no_other i (λ r. n r.0))))

  behind_ready : Ready s im i
  behind_ready = dite (ℕ_discrete (at s im (status i)) is_ready) (λ e. (behind_task, e)) (λ n. absurd (behind_times (g.no_other i (λ r. n r.1))))

  pub behind_some : empty s im Queue.Ready ≡ false
  behind_some = go (held s im Queue.Ready) refl b.0
    where
      go : (l : List ℕ) → held s im Queue.Ready ≡ l → k < length l → empty s im Queue.Ready ≡ false
      go [] e h = absurd (omega arith)
      go (x ∷ l) e h = held_some s im x l e

-- with none ahead it is first
pub behind_first : (s : Shape) (im : List ℕ) → Good s im → (i : Task) → Behind s im i 0 → IsFirst s im i
behind_first s im g i b = go (held s im Queue.Ready) refl b.0 b.1
  where
    go : (l : List ℕ) → held s im Queue.Ready ≡ l → 0 < length l → get_or l 0 0 ≡ i.0 → IsFirst s im i
    go [] e h f = absurd (omega arith)
    go (x ∷ l) e h f = record { some = held_some s im x l e; named = held_first s im x l e (good_sound s im g) ∙ f }

-- with others ahead it is not, since it stands in the queue once
module _ (s : Shape) (im : List ℕ) (g : Good s im) (i : Task) (k : ℕ) (b : Behind s im i (suc k)) where
  some : empty s im Queue.Ready ≡ false
  some = behind_some s im g i (suc k) b

  hi : i.0 < s.n
  hi = behind_task s im g i (suc k) b

  pub not_first : i.0 ≢ (running s im).0
  not_first e =
      let l = leads_list (first_leads s im g some) in
      let rest = held s (taken s im Queue.Ready) Queue.Ready in
      let b' : (suc k < suc (length rest)) × (get_or rest k 0 ≡ i.0) = rw l at b in
      let t : times i.0 (first s im Queue.Ready ∷ rest) ≡ 1 = rw l at (g.ready i (behind_ready s im g i (suc k) b)) in
      let t' : 1 + times i.0 rest ≡ 1 = rw (eq-eqb i.0 (first s im Queue.Ready) e) at t in
      omega (arith, times_some rest k i.0 (omega arith) b'.1, t')

  -- so where of the words of tasks those of the first alone may change, it is untouched
  pub frame_untouched : {m : List ℕ} → Frame s (TickCell s im (running s im)) im m → Untouched s im m i
  frame_untouched {m} k =
      let there = lies_same s im m i (k.others (base i) (hi, omega arith) (off_table s im g (running s im) i 0)) (k.others (len i) (hi, omega arith) (off_table s im g (running s im) i 1)) in
      record { lies_kept = there; own_kept = own_same s im m i hi g.laid there (λ c hc own. k.others c hc (not_touched c own)) }
    where
      not_touched : (c : Cell) → OwnCell s im i c → ¬ TickCell s im (running s im) c
      not_touched c (inl (p, _)) (inl t) = true≢false (sym t ∙ ap event_parts p)
      not_touched c (inr (p, _)) (inl t) = true≢false (sym t ∙ ap event_parts p)
      not_touched c own (inr first) = own_apart s im g.laid i (running s im) hi (first_task s im g some) not_first c own first

-- Words that move to and from buffers, one law for each way. Assumes nothing.
use Rattle.std.specs.Prelude.{◌≡◌, List, [], ◌∷◌, ◌++◌, Bool, true, false, ◌≢◌, ◌⊎◌, ℕ, ◌<◌, ◌≤◌, eqb, None, Option}
use Rattle.std.proofs.Math.Path.{refl}
use Rattle.std.proofs.Common.{sym, ap, ◌∙◌, inl, inr, arith, eq-eqb, eqb-true}
use Rattle.std.proofs.Math.Logic.{dite}
use Rattle.std.proofs.Math.Decide.{ℕ_discrete}
use Rattle.std.proofs.lemmas.Bool.{eqb-false}
use Rattle.std.proofs.Math.ListN.{length}
use Rattle.paper.specs.Image.{most_character, ord, total, cell, Valid, at, put, status, peer, busy, character}
use Rattle.paper.specs.Queues.{part_of, Has, queue_word, count, appended, first, taken, held, free, empty, full}
use Rattle.paper.specs.Flags.{is_ready, waits}
use Rattle.paper.specs.Waking.{one_if}
use Rattle.paper.specs.Services.{printing, printing_if_idle, waits_for}
use Rattle.paper.specs.Events.{port_next}
use Rattle.paper.specs.Rules.{Characters, Zeros, Ported, Empty}
use Rattle.paper.specs.declared.Task.{Task}
use Rattle.paper.specs.declared.Shape.{Shape}
use Rattle.paper.specs.declared.Cell.{Cell}
use Rattle.paper.specs.declared.Part.{Part}
use Rattle.paper.specs.declared.Queue.{Queue}
use Rattle.paper.specs.declared.Service.{Service}
use Rattle.laws.specs.Cases.{when}
use Rattle.laws.specs.Cells.{cells}
use Rattle.laws.specs.Queues.{same_task, appended_held, appended_cleared, taken_held, taken_cleared}
use Rattle.laws.specs.Sound.{Sound, sound, has_space, has_word, put_sound, appended_sound, appended_some, taken_sound}
use Rattle.laws.specs.Frame.{Frame, Apart, frame_none, frame_more, frame_put, frame_appended, frame_taken, ported_frame, kept, kept_port, kept_held, kept_free, kept_count}
use Rattle.laws.specs.Changes.{message_parts, out_sound, frame_printing}
use Rattle.laws.specs.Room.{waits_not}
use Rattle.event_laws.specs.Kept.{Spared, Chars, Nearly}
use Rattle.event_laws.specs.Buffers.{BufferCell, Free, buffer_nearly}

-- characters, one more or one less
characters_more : (l : List ℕ) (v : ℕ) → Characters l → v ≤ most_character → Characters (l ++ (v ∷ []))
characters_more [] v c h = (h, tt)
characters_more (x ∷ xs) v c h = (c.0, characters_more xs v c.1 h)

-- the output buffers; the ports
abbrev out_part : Part → Bool
out_part p = eqb (ord p) 5

abbrev ports_part : Part → Bool
ports_part p = eqb (ord p) 7

is_empty : (s : Shape) (im : List ℕ) (q : Queue) → empty s im q ≡ true → Empty s im q
unfolding empty
is_empty s im q e = eqb-true _ 0 e

message_inj : (a b c d : Task) → Queue.Message a b ≡ Queue.Message c d → (a ≡ c) × (b ≡ d)
message_inj a b c d e = (cc, cc)

pub one_spared : (b : Bool) (k t : Task) → b ≡ true → t ≡ k → Spared (one_if b k) t
one_spared b k t e f = rw (e, f)

waits_true : (s : Shape) (im : List ℕ) (k : Task) (v : Service) (i : Task) → at s im (status k) ≡ waits v → at s im (peer k) ≡ i.0 → waits_for s im k v i ≡ true
unfolding waits_for
waits_true s im k v i a b = rw (eq-eqb _ _ a, eq-eqb _ _ b)

-- a ready task waits on none
module _ (s : Shape) (im : List ℕ) (i : Task) (at_ready : at s im (status i) ≡ is_ready) where
  not_it : (t : Task) (v : Service) → at s im (status t) ≡ waits v → t ≢ i
  not_it t v e f = waits_not v (sym at_ready ∙ sym (ap (λ (x : Task). at s im (status x)) f) ∙ e)

  -- the buffer from it: the receiver, if it waits for this sender
  pub free_from : (k : Task) → Free s im (Queue.Message i k) (one_if (waits_for s im k Service.Receive i) k)
  free_from k t Service.Send ht sp e f = not_it t Service.Send e (message_inj _ _ _ _ f).0
  free_from k t Service.Receive ht sp e f =
      let m = message_inj _ _ _ _ f in
      let b : t ≡ k = m.1 in
      let p : at s im (peer t) ≡ i.0 = ap (λ (x : Task). x.0) m.0 in
      sp (one_spared _ k t (waits_true s im k Service.Receive i (rw (sym b) e) (rw (sym b) p)) b)
  free_from k t Service.Input ht sp e f = absurd (let z : ◌≡◌ {A = ℕ} 0 1 = cc in omega arith)
  free_from k t Service.Output ht sp e f = absurd (let z : ◌≡◌ {A = ℕ} 0 1 = cc in omega arith)

  -- the buffer to it: the sender, if it waits for this receiver
  pub free_to : (k : Task) → Free s im (Queue.Message k i) (one_if (waits_for s im k Service.Send i) k)
  free_to k t Service.Receive ht sp e f = not_it t Service.Receive e (message_inj _ _ _ _ f).1
  free_to k t Service.Send ht sp e f =
      let m = message_inj _ _ _ _ f in
      let a : t ≡ k = m.0 in
      let p : at s im (peer t) ≡ i.0 = ap (λ (x : Task). x.0) m.1 in
      sp (one_spared _ k t (waits_true s im k Service.Send i (rw (sym a) e) (rw (sym a) p)) a)
  free_to k t Service.Input ht sp e f = absurd (let z : ◌≡◌ {A = ℕ} 0 1 = cc in omega arith)
  free_to k t Service.Output ht sp e f = absurd (let z : ◌≡◌ {A = ℕ} 0 1 = cc in omega arith)

-- a task's own buffer: the task itself, if it waits on it
module _ (s : Shape) (im : List ℕ) (i : Task) (w : Option Task) where
  pub free_input : (at s im (status i) ≡ waits Service.Input → Spared w i) → Free s im (Queue.Input i) w
  free_input g t Service.Input ht sp e f =
      let a : t ≡ i = cc in
      sp (rw a (g (rw (sym a) e)))
  free_input g t Service.Send ht sp e f = absurd (let z : ◌≡◌ {A = ℕ} 0 1 = cc in omega arith)
  free_input g t Service.Receive ht sp e f = absurd (let z : ◌≡◌ {A = ℕ} 0 1 = cc in omega arith)
  free_input g t Service.Output ht sp e f = absurd (let z : ◌≡◌ {A = ℕ} 0 1 = cc in omega arith)

  pub free_output : (at s im (status i) ≡ waits Service.Output → Spared w i) → Free s im (Queue.Output i) w
  free_output g t Service.Output ht sp e f =
      let a : t ≡ i = cc in
      sp (rw a (g (rw (sym a) e)))
  free_output g t Service.Send ht sp e f = absurd (let z : ◌≡◌ {A = ℕ} 0 1 = cc in omega arith)
  free_output g t Service.Receive ht sp e f = absurd (let z : ◌≡◌ {A = ℕ} 0 1 = cc in omega arith)
  free_output g t Service.Input ht sp e f = absurd (let z : ◌≡◌ {A = ℕ} 0 1 = cc in omega arith)

-- what is appended is held, what is taken is not
module _ (s : Shape) (im : List ℕ) (h : Sound s im) (q : Queue) (hq : Has s q) where
  pub appended_chars : (v : ℕ) → full s im q ≡ false → Characters (held s im q) → v ≤ most_character → Characters (held s (appended s im q v) q)
  appended_chars v f c low =
      rw (appended_held s im q hq (sound h).laid.words ((sound h).queues q hq) v (has_space s im h q hq f)) (characters_more (held s im q) v c low)

  pub taken_chars : empty s im q ≡ false → Characters (held s im q) → (first s im q ≤ most_character) × Characters (held s (taken s im q) q)
  taken_chars f c =
      rw (taken_held s im q hq (sound h).laid.words ((sound h).queues q hq) (has_word s im h q hq f)) at c

  -- free slots are 0 still
  pub append_clears : (v : ℕ) → full s im q ≡ false → Zeros (free s im q) → Zeros (free s (appended s im q v) q)
  append_clears v f = appended_cleared s im q hq (sound h).laid.words ((sound h).queues q hq) v (has_space s im h q hq f)

  pub take_clears : empty s im q ≡ false → Zeros (free s im q) → Zeros (free s (taken s im q) q)
  take_clears f = taken_cleared s im q hq (sound h).laid.words ((sound h).queues q hq) (has_word s im h q hq f)

-- a word appended to or taken from a buffer that is no output buffer
module _ {s : Shape} {im : List ℕ} (h : Nearly s im None) (q : Queue) (hq : Has s q) (device : message_parts (part_of q) ≡ true) (w : Option Task) (none-waits : Free s im q w) where
  moves_nearly : (m : List ℕ) → ((E : Cell → Type 0) → ((r : ℕ) → E (queue_word s q r)) → Frame s E im m) → Chars s m q → Zeros (free s m q) → Sound s m → Nearly s m w
  moves_nearly m k chars cleared lies =
      let a : Apart s message_parts im m = k (λ c. message_parts c.part ≡ true) (λ r. device) in
      buffer_nearly h q hq (rw device) (k (BufferCell s q) (λ r. inl (refl, refl))) chars cleared w lies (λ i hi. kept_port message_parts a refl refl i hi (h.ports i hi))
      none-waits

  pub append_nearly : (v : ℕ) → full s im q ≡ false → Chars s (appended s im q v) q → Nearly s (appended s im q v) w
  append_nearly v f chars =
      moves_nearly _ (λ E e. frame_appended frame_none q hq h.lies e v) chars (append_clears s im h.lies q hq v f (h.cleared q hq))
      (appended_sound s im q hq h.lies v (has_space s im h.lies q hq f))

  pub take_nearly : empty s im q ≡ false → Chars s (taken s im q) q → Nearly s (taken s im q) w
  take_nearly f chars =
      moves_nearly _ (λ E e. frame_taken frame_none q hq h.lies e) chars (take_clears s im h.lies q hq f (h.cleared q hq))
      (taken_sound s im q hq h.lies (has_word s im h.lies q hq f))

-- a cell of the output buffer or the port of task i
abbrev OutCell : Task → Cell → Type 0
OutCell i c = (c.row ≡ i.0) × ((c.part ≡ Part.OutputBuffers) ⊎ (c.part ≡ Part.Ports))

-- those of one task written anew
module _ {s : Shape} {im : List ℕ} (h : Nearly s im None) (i : Task) (hi : i.0 < s.n) (w : Option Task) (none-waits : Free s im (Queue.Output i) w) where
  out_ports : {m : List ℕ} → Frame s (OutCell i) im m → Ported s m i → (j : Task) → j.0 < s.n → Ported s m j
  out_ports k p j hj =
      dite (ℕ_discrete j.0 i.0) (λ e. rw (same_task j i e) p)
      (λ ne.
      let off : (c : Cell) → Valid s c → c.row ≡ j.0 → at s _ c ≡ at s im c = λ c hc r. k.others c hc (λ e. ne (sym r ∙ e.0)) in
      ported_frame s im _ j (off (busy j) (hj, omega arith) refl) (off (character j) (hj, omega arith) refl) (off (count s (Queue.Output j)) (hj, omega arith) refl) (h.ports j hj))

  out_nearly : {m : List ℕ} → Frame s (OutCell i) im m → Characters (held s m (Queue.Output i)) → Zeros (free s m (Queue.Output i)) → Sound s m → Ported s m i → Nearly s m w
  out_nearly k chars cleared lies p =
      buffer_nearly h (Queue.Output i) hi refl (frame_more k go) chars cleared w lies (out_ports k p) none-waits
    where
      go : (c : Cell) → OutCell i c → BufferCell s (Queue.Output i) c
      go c (r, inl e) = inl (e, r)
      go c (r, inr e) = inr e

  -- the first word of the output buffer goes to the port: m is im, or im with an output appended
  module _ {m : List ℕ} (k : Frame s (OutCell i) im m) (lies : Sound s m) (some : empty s m (Queue.Output i) ≡ false) (chars : Characters (held s m (Queue.Output i)))
      (cleared : Zeros (free s m (Queue.Output i))) where
    took : Sound s (taken s m (Queue.Output i))
    took = taken_sound s m (Queue.Output i) hi lies (has_word s m lies (Queue.Output i) hi some)

    printed_sound : Sound s (printing s m i)
    unfolding printing
    printed_sound =
        put_sound s _ (character i) _ (hi, omega arith) (omega arith) (put_sound s _ (busy i) 1 (hi, omega arith) (omega arith) took)

    printed_apart : Apart s ports_part (taken s m (Queue.Output i)) (printing s m i)
    unfolding printing
    printed_apart = frame_put (frame_put frame_none (busy i) 1 (hi, omega arith) refl) (character i) _ (hi, omega arith) refl

    printed_chars : Characters (held s (printing s m i) (Queue.Output i))
    printed_chars =
        rw (kept_held ports_part printed_apart (Queue.Output i) hi refl took) (taken_chars s m lies (Queue.Output i) hi some chars).1

    printed_cleared : Zeros (free s (printing s m i) (Queue.Output i))
    printed_cleared =
        rw (kept_free ports_part printed_apart (Queue.Output i) hi refl took) (take_clears s m lies (Queue.Output i) hi some cleared)

    printed_port : Ported s (printing s m i) i
    unfolding printing
    printed_port =
        let long : length (taken s m (Queue.Output i)) ≡ total s = (sound took).laid.words in
        let f = first s m (Queue.Output i) in
        let b : at s (put s (put s (taken s m (Queue.Output i)) (busy i) 1) (character i) f) (busy i) ≡ 1 = search cells in
        let c : at s (put s (put s (taken s m (Queue.Output i)) (busy i) 1) (character i) f) (character i) ≡ f = search cells in
        record {
          busy_range = rw b (omega arith);
          character_range = rw c (taken_chars s m lies (Queue.Output i) hi some chars).0;
          idle = rw b (λ z. absurd (omega arith));
        }

    pub printing_nearly : Nearly s (printing s m i) w
    printing_nearly = out_nearly (frame_printing k lies i hi (λ r. (refl, inl refl)) (λ r. (refl, inr refl))) printed_chars printed_cleared printed_sound printed_port

  -- a port that goes idle
  idle_nearly : Empty s im (Queue.Output i) → Nearly s (put s (put s im (busy i) 0) (character i) 0) w
  idle_nearly none =
      let m = put s (put s im (busy i) 0) (character i) 0 in
      let long : length im ≡ total s = (sound h.lies).laid.words in
      let b : at s (put s (put s im (busy i) 0) (character i) 0) (busy i) ≡ 0 = search cells in
      let c : at s (put s (put s im (busy i) 0) (character i) 0) (character i) ≡ 0 = search cells in
      let a : Apart s ports_part im (put s (put s im (busy i) 0) (character i) 0) = frame_put (frame_put frame_none (busy i) 0 (hi, omega arith) refl) (character i) 0 (hi, omega arith) refl in
      out_nearly (frame_put (frame_put frame_none (busy i) 0 (hi, omega arith) (refl, inr refl)) (character i) 0 (hi, omega arith) (refl, inr refl))
      (rw (kept_held ports_part a (Queue.Output i) hi refl h.lies) (h.chars (Queue.Output i) hi))
      (rw (kept_free ports_part a (Queue.Output i) hi refl h.lies) (h.cleared (Queue.Output i) hi))
      (put_sound s _ (character i) 0 (hi, omega arith) (omega arith) (put_sound s im (busy i) 0 (hi, omega arith) (omega arith) h.lies))
      record { busy_range = rw b (omega arith); character_range = rw c (omega arith); idle = λ _. (c, (kept_count ports_part a (Queue.Output i) hi refl).0 ∙ none) }

  -- the port goes on
  pub next_nearly : Nearly s (port_next s im i) w
  unfolding port_next
  next_nearly =
      when (λ m. Nearly s m w) (empty s im (Queue.Output i)) (λ e. idle_nearly (is_empty s im (Queue.Output i) e))
      (λ e. printing_nearly frame_none h.lies e (h.chars (Queue.Output i) hi) (h.cleared (Queue.Output i) hi))

  -- an output appended, and printed where the port is idle
  module _ (v : ℕ) (low : v ≤ most_character) (clear : full s im (Queue.Output i) ≡ false) where
    out_frame : Frame s (OutCell i) im (appended s im (Queue.Output i) v)
    out_frame = frame_appended frame_none (Queue.Output i) hi h.lies (λ r. (refl, inl refl)) v

    out_chars : Characters (held s (appended s im (Queue.Output i) v) (Queue.Output i))
    out_chars = appended_chars s im h.lies (Queue.Output i) hi v clear (h.chars (Queue.Output i) hi) low

    out_cleared : Zeros (free s (appended s im (Queue.Output i) v) (Queue.Output i))
    out_cleared = append_clears s im h.lies (Queue.Output i) hi v clear (h.cleared (Queue.Output i) hi)

    out_port : (r : ℕ) → r < 2 → at s (appended s im (Queue.Output i) v) (cell Part.Ports i.0 r) ≡ at s im (cell Part.Ports i.0 r)
    out_port r hr = kept out_part (frame_appended frame_none (Queue.Output i) hi h.lies (λ r. refl) v) _ (hi, hr) refl

    kept_going : at s (appended s im (Queue.Output i) v) (busy i) ≢ 0 → Nearly s (appended s im (Queue.Output i) v) w
    kept_going ne =
        let p = h.ports i hi in
        out_nearly out_frame out_chars out_cleared (out_sound s im i hi h.lies v clear)
        record { busy_range = rw (out_port 0 (omega arith)) p.busy_range; character_range = rw (out_port 1 (omega arith)) p.character_range; idle = λ z. absurd (ne z) }

    pub output_nearly : Nearly s (printing_if_idle s (appended s im (Queue.Output i) v) i) w
    unfolding printing_if_idle
    output_nearly =
        when (λ m. Nearly s m w) (eqb (at s (appended s im (Queue.Output i) v) (busy i)) 0)
        (λ _. printing_nearly out_frame (out_sound s im i hi h.lies v clear) (appended_some s im h.lies (Queue.Output i) hi v) out_chars out_cleared)
        (λ e. kept_going (eqb-false _ 0 e))

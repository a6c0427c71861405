-- A sound image: of its shape, and with all its queues in order. What keeps it so. Assumes nothing.
use Rattle.std.specs.Prelude.{◌≡◌, refl, List, false, not, ℕ, zero, suc, ◌<◌, ◌≤◌, T, eqb, length}
use Rattle.std.proofs.Common.{sym, ap, ◌∙◌, ⊎_elim, T_not}
use native.Mathlib.Omega.{arith}
use borrow.Author.Tests.{eqb-false, ne_eqb}
use Rattle.paper.specs.Image.{most_tasks, task, lead, total, cell, Valid, at, put, len, segment_start}
use Rattle.paper.specs.Queues.{part_of, Has, queue_word, count, capacity, appended, taken, empty, full}
use Rattle.paper.specs.Rules.{Fit, Laid, Queued}
use Rattle.paper.specs.declared.Task.{Task}
use Rattle.paper.specs.declared.Shape.{Shape}
use Rattle.paper.specs.declared.Cell.{Cell}
use Rattle.paper.specs.declared.Part.{Part}
use Rattle.paper.specs.declared.Queue.{Queue}
use Rattle.laws.specs.Cells.{at_header, at_other, length_put}
use Rattle.laws.specs.Queues.{Off, word_valid, same_queue, appended_off, appended_count, appended_length, appended_queued, taken_off, taken_length, taken_queued}

-- an image of the size that its shape gives: what reading a cell needs; shut, as contracts say it
unfoldable pub Sized : Shape → List ℕ → Type 0
Sized s im = Fit s × (length im ≡ total s)

pub make_sized : (s : Shape) (im : List ℕ) → Fit s → length im ≡ total s → Sized s im
unfolding Sized
make_sized s im f w = (f, w)

pub sized_fit : (s : Shape) (im : List ℕ) → Sized s im → Fit s
unfolding Sized
sized_fit s im h = h.0

pub sized_words : (s : Shape) (im : List ℕ) → Sized s im → length im ≡ total s
unfolding Sized
sized_words s im h = h.1

pub sized_few : (s : Shape) (im : List ℕ) → Sized s im → s.n ≤ most_tasks
sized_few s im h = (sized_fit s im h).tasks.1

-- what leaf code needs to be safe
pub record Orderly (s : Shape) (im : List ℕ) : Type 0 where
  pub laid : Laid s im
  pub queues : (q : Queue) → Has s q → Queued s im q

-- the same, shut, as contracts say it, so that a search does not go into it
unfoldable pub Sound : Shape → List ℕ → Type 0
Sound s im = Orderly s im

pub shut : {s : Shape} {im : List ℕ} → Orderly s im → Sound s im
unfolding Sound
shut h = h

pub sound : {s : Shape} {im : List ℕ} → Sound s im → Orderly s im
unfolding Sound
sound h = h

pub sound_sized : (s : Shape) (im : List ℕ) → Sound s im → Sized s im
sound_sized s im h = make_sized s im (sound h).laid.fit (sound h).laid.words

pub sound_fit : (s : Shape) (im : List ℕ) → Sound s im → Fit s
sound_fit s im h = (sound h).laid.fit

-- how many words at the start of each row of a part the layout and the queues fix
abbrev pub fixed : Part → ℕ
fixed Part.Header = 17
fixed Part.TaskTable = 0
fixed Part.ReadyQueue = lead
fixed Part.StatusTable = 0
fixed Part.InputBuffers = lead
fixed Part.OutputBuffers = lead
fixed Part.MessageBuffers = lead
fixed Part.Ports = 0
fixed Part.SegmentTable = 2
fixed Part.Segments = 0

pub fixed_queue : (q : Queue) → fixed (part_of q) ≡ lead
fixed_queue Queue.Ready = refl
fixed_queue (Queue.Input i) = refl
fixed_queue (Queue.Output i) = refl
fixed_queue (Queue.Message i j) = refl

-- the layout and a queue are what their fixed words say
module _ (s : Shape) (im im' : List ℕ) where
  starts_frame : (n : ℕ) → ((i : Task) → i.0 < n → at s im' (len i) ≡ at s im (len i)) → segment_start s im' n ≡ segment_start s im n
  starts_frame zero f = refl
  starts_frame (suc n) f = omega (arith, starts_frame n (λ i h. f i (omega arith)), f (task n) (omega arith))

  pub laid_frame : Laid s im → length im' ≡ length im
      → ((k : ℕ) → k < 17 → at s im' (cell Part.Header 0 k) ≡ at s im (cell Part.Header 0 k))
      → ((i : Task) (k : ℕ) → i.0 < s.n → k < 2 → at s im' (cell Part.SegmentTable i.0 k) ≡ at s im (cell Part.SegmentTable i.0 k))
      → Laid s im'
  laid_frame h long f g =
      let lens : (i : Task) → i.0 < s.n → at s im' (len i) ≡ at s im (len i) = λ i hi. g i 1 hi (omega arith) in
      record {
        fit = h.fit;
        words = long ∙ h.words;
        headed = λ k hk. sym (at_header s im' k) ∙ f k hk ∙ at_header s im k ∙ h.headed k hk;
        bases = λ i hi. g i 0 hi (omega arith) ∙ h.bases i hi ∙ sym (starts_frame i.0 (λ j hj. lens j (omega arith)));
        lengths = λ i hi. rw (lens i hi) (h.lengths i hi);
        ends = starts_frame s.n lens ∙ h.ends;
      }

  pub queued_frame : (q : Queue) → Queued s im q → ((k : ℕ) → k < lead → at s im' (queue_word s q k) ≡ at s im (queue_word s q k)) → Queued s im' q
  queued_frame q r f =
      let e0 = f 0 (omega arith) in
      let e1 = f 1 (omega arith) in
      let e2 = f 2 (omega arith) in
      let e3 = f 3 (omega arith) in
      record {
        sized = e3 ∙ r.sized;
        headed = rw (e0, e3) r.headed;
        tailed = rw (e1, e3) r.tailed;
        counted = rw (e2, e3) r.counted;
        round = rw (e0, e1, e2, e3) r.round;
      }

-- a write past the fixed words of its row keeps an image sound
module _ (s : Shape) (im : List ℕ) (c : Cell) (v : ℕ) (hc : Valid s c) (free : fixed c.part ≤ c.column) where
  free_other : (d : Cell) → Valid s d → d.column < fixed d.part → at s (put s im c v) d ≡ at s im d
  free_other d hd l =
      at_other s im c d v hc hd (λ e.
      let a : fixed d.part ≡ fixed c.part = ap (λ (x : Cell). fixed x.part) e in
      let b : d.column ≡ c.column = ap (λ (x : Cell). x.column) e in
      omega arith)

  pub put_sound : Sound s im → Sound s (put s im c v)
  put_sound h =
      let o = sound h in
      shut record {
        laid = laid_frame s im (put s im c v) o.laid (length_put s im c v) (λ k hk. free_other (cell Part.Header 0 k) (omega arith, omega arith) hk)
            (λ i k hi hk. free_other (cell Part.SegmentTable i.0 k) (hi, hk) hk);
        queues = λ q hq. queued_frame s im (put s im c v) q (o.queues q hq) (λ k hk. free_other (queue_word s q k) (word_valid s q k hq (omega arith)) (omega (arith, fixed_queue q)));
      }

-- a part that has no queues is off every queue's row
pub off_table : (s : Shape) (q : Queue) (p : Part) (i k : ℕ) → T (not (eqb (fixed p) lead)) → Off s q (cell p i k)
off_table s q p i k ne e = absurd (T_not (eqb (fixed p) lead) ne (rw (ap fixed e ∙ fixed_queue q) tt))

-- so does a change of one queue's row that leaves it a queue
module _ (s : Shape) (im im' : List ℕ) (q : Queue) (hq : Has s q) (long : length im' ≡ length im)
    (off : (c : Cell) → Valid s c → Off s q c → at s im' c ≡ at s im c) (r : Queued s im' q) where
  pub row_sound : Sound s im → Sound s im'
  row_sound h =
      shut record {
        laid = laid_frame s im im' (sound h).laid long (λ k hk. off (cell Part.Header 0 k) (omega arith, omega arith) (off_table s q Part.Header 0 k tt))
            (λ i k hi hk. off (cell Part.SegmentTable i.0 k) (hi, hk) (off_table s q Part.SegmentTable i.0 k tt));
        queues = λ p hp.
            ⊎_elim (λ e. rw e r) (λ o. queued_frame s im im' p ((sound h).queues p hp) (λ k hk. off (queue_word s p k) (word_valid s p k hp (omega arith)) (o k))) (same_queue s p q hp hq);
      }

module _ (s : Shape) (im : List ℕ) (q : Queue) (hq : Has s q) (h : Sound s im) where
  long : length im ≡ total s
  long = (sound h).laid.words

  queued : Queued s im q
  queued = (sound h).queues q hq

  pub appended_sound : (v : ℕ) → at s im (count s q) < at s im (capacity s q) → Sound s (appended s im q v)
  appended_sound v room =
      row_sound s im (appended s im q v) q hq (appended_length s im q hq long queued v) (appended_off s im q hq long queued v)
      (appended_queued s im q hq long queued v room) h

  pub taken_sound : 0 < at s im (count s q) → Sound s (taken s im q)
  taken_sound some =
      row_sound s im (taken s im q) q hq (taken_length s im q hq long queued) (taken_off s im q hq long queued)
      (taken_queued s im q hq long queued some) h

-- room, and a word to take
module _ (s : Shape) (im : List ℕ) (h : Sound s im) (q : Queue) (hq : Has s q) where
  pub has_space : full s im q ≡ false → at s im (count s q) < at s im (capacity s q)
  unfolding full
  has_space f =
      let ne = eqb-false (at s im (count s q)) (at s im (capacity s q)) f in
      let c = ((sound h).queues q hq).counted in
      omega arith

  pub has_word : empty s im q ≡ false → 0 < at s im (count s q)
  unfolding empty
  has_word f =
      let ne = eqb-false (at s im (count s q)) 0 f in
      omega arith

  -- after a word is appended there is one
  pub appended_some : (v : ℕ) → empty s (appended s im q v) q ≡ false
  unfolding empty
  appended_some v =
      let c = appended_count s im q hq (sound h).laid.words ((sound h).queues q hq) v in
      ne_eqb (at s (appended s im q v) (count s q)) 0 (λ e. omega (arith, c, e))

-- Images that differ in some cells alone: one record over a set of cells, what adds to it, and what the rules of the others keep. Assumes nothing.
use Rattle.std.specs.Prelude.{◌≡◌, refl, List, Bool, true, false, ℕ, ◌+◌, ◌<◌, length}
use Rattle.std.proofs.Common.{sym, subst, ◌∙◌, true≢false, arith}
use Rattle.paper.specs.Image.{lead, cell, Valid, at, put, clock, reg, flags, status, peer, busy, character}
use Rattle.paper.specs.Queues.{part_of, Has, header_capacity, queue_word, head, count, capacity, appended, first, taken, held, free, empty, full}
use Rattle.paper.specs.Rules.{Flagged, Ported}
use Rattle.paper.specs.declared.Task.{Task}
use Rattle.paper.specs.declared.Shape.{Shape}
use Rattle.paper.specs.declared.Cell.{Cell}
use Rattle.paper.specs.declared.Part.{Part}
use Rattle.paper.specs.declared.Queue.{Queue}
use Rattle.laws.specs.Cells.{at_other, length_put}
use Rattle.laws.specs.Queues.{Off, word_valid, held_frame, free_frame, appended_off, appended_length, taken_off, taken_length}
use Rattle.laws.specs.Sound.{Sound, shut, sound, fixed, fixed_queue, laid_frame, queued_frame}

-- m is im but for cells that E picks
pub record Frame (s : Shape) (E : Cell → Type 0) (im m : List ℕ) : Type 0 where
  pub long : length m ≡ length im
  pub others : (c : Cell) → Valid s c → ¬ E c → at s m c ≡ at s im c

pub frame_none : {s : Shape} {E : Cell → Type 0} {im : List ℕ} → Frame s E im im
frame_none = record { long = refl; others = λ c hc f. refl }

module _ {s : Shape} {E : Cell → Type 0} {im m : List ℕ} (k : Frame s E im m) where
  -- of more cells, and one after another
  pub frame_more : {D : Cell → Type 0} → ((c : Cell) → E c → D c) → Frame s D im m
  frame_more more = record { long = k.long; others = λ c hc f. k.others c hc (λ e. f (more c e)) }

  pub frame_then : {l : List ℕ} → Frame s E m l → Frame s E im l
  frame_then n = record { long = n.long ∙ k.long; others = λ c hc f. n.others c hc f ∙ k.others c hc f }

  -- a cell written, a word appended, a word taken
  pub frame_put : (d : Cell) (v : ℕ) → Valid s d → E d → Frame s E im (put s m d v)
  frame_put d v hd e =
      frame_then
      record { long = length_put s m d v; others = λ c hc f. at_other s m d c v hd hc (λ z. f (subst E (sym z) e)) }

  module _ (q : Queue) (hq : Has s q) (h : Sound s m) (e : (j : ℕ) → E (queue_word s q j)) where
    off : (c : Cell) → ¬ E c → Off s q c
    off c f part row =
        let same : cell c.part c.row c.column ≡ queue_word s q c.column = cc (part, row) in
        f (subst E (sym same) (e c.column))

    pub frame_appended : (v : ℕ) → Frame s E im (appended s m q v)
    frame_appended v =
        let o = sound h in
        frame_then
        record {
          long = appended_length s m q hq o.laid.words (o.queues q hq) v;
          others = λ c hc f. appended_off s m q hq o.laid.words (o.queues q hq) v c hc (off c f);
        }

    pub frame_taken : Frame s E im (taken s m q)
    frame_taken =
        let o = sound h in
        frame_then
        record {
          long = taken_length s m q hq o.laid.words (o.queues q hq);
          others = λ c hc f. taken_off s m q hq o.laid.words (o.queues q hq) c hc (off c f);
        }

  -- where no word that the layout or a queue fixes is picked, an image stays sound
  pub frame_sound : ((c : Cell) → c.column < fixed c.part → ¬ E c) → Sound s im → Sound s m
  frame_sound free h =
      let o = sound h in
      shut record {
        laid = laid_frame s im m o.laid k.long (λ j hj. k.others (cell Part.Header 0 j) (omega arith, omega arith) (free _ hj))
            (λ i j hi hj. k.others (cell Part.SegmentTable i.0 j) (hi, hj) (free _ hj));
        queues = λ q hq. queued_frame s im m q (o.queues q hq) (λ j hj. k.others (queue_word s q j) (word_valid s q j hq (omega arith)) (free _ (omega (arith, fixed_queue q))));
      }

-- the words of a task that its status' rules read
pub record Same (s : Shape) (im im' : List ℕ) (i : Task) : Type 0 where
  pub of_status : at s im' (status i) ≡ at s im (status i)
  pub of_peer : at s im' (peer i) ≡ at s im (peer i)
  pub of_flags : at s im' (flags i) ≡ at s im (flags i)
  pub of_two : at s im' (reg i 2) ≡ at s im (reg i 2)
  pub of_three : at s im' (reg i 3) ≡ at s im (reg i 3)

-- a queue's length and capacity
abbrev pub SameCount : Shape → List ℕ → List ℕ → Queue → Type 0
SameCount s im im' q = (at s im' (count s q) ≡ at s im (count s q)) × (at s im' (capacity s q) ≡ at s im (capacity s q))

-- flags that are as they were hold what they held
pub flagged_frame : (s : Shape) (im m : List ℕ) (i : Task) → at s m (flags i) ≡ at s im (flags i) → Flagged s im i → Flagged s m i
flagged_frame s im m i e f =
    record {
      cc_range = rw e f.cc_range;
      error_range = rw e f.error_range;
      pending_range = rw e f.pending_range;
      never_both = rw e f.never_both;
    }

-- so does a port whose words and output buffer are
pub ported_frame : (s : Shape) (im im' : List ℕ) (i : Task) → at s im' (busy i) ≡ at s im (busy i) → at s im' (character i) ≡ at s im (character i)
    → at s im' (count s (Queue.Output i)) ≡ at s im (count s (Queue.Output i)) → Ported s im i → Ported s im' i
ported_frame s im im' i b c n p =
    record { busy_range = rw b p.busy_range; character_range = rw c p.character_range; idle = rw (b, c, n) p.idle }

-- images that differ in the parts that P picks alone
abbrev pub Apart : Shape → (Part → Bool) → List ℕ → List ℕ → Type 0
Apart s P im m = Frame s (λ c. P c.part ≡ true) im m

-- what the other parts keep
module _ {s : Shape} (P : Part → Bool) {im m : List ℕ} (a : Apart s P im m) where
  pub kept : (c : Cell) → Valid s c → P c.part ≡ false → at s m c ≡ at s im c
  kept c hc f = a.others c hc (λ t. true≢false (sym t ∙ f))

  pub kept_flags : P Part.TaskTable ≡ false → (i : Task) → i.0 < s.n → Flagged s im i → Flagged s m i
  kept_flags f i hi h = flagged_frame s im m i (kept (flags i) (hi, omega arith) f) h

  pub kept_clock : P Part.Header ≡ false → at s m clock ≡ at s im clock
  kept_clock f = kept clock (omega arith, omega arith) f

  pub kept_status : P Part.StatusTable ≡ false → (i : Task) → i.0 < s.n → at s m (status i) ≡ at s im (status i)
  kept_status f i hi = kept (status i) (hi, omega arith) f

  pub kept_peer : P Part.StatusTable ≡ false → (i : Task) → i.0 < s.n → at s m (peer i) ≡ at s im (peer i)
  kept_peer f i hi = kept (peer i) (hi, omega arith) f

  pub kept_same : P Part.StatusTable ≡ false → P Part.TaskTable ≡ false → (i : Task) → i.0 < s.n → Same s im m i
  kept_same f g i hi =
      record {
        of_status = kept_status f i hi;
        of_peer = kept_peer f i hi;
        of_flags = kept (flags i) (hi, omega arith) g;
        of_two = kept (reg i 2) (hi, omega arith) g;
        of_three = kept (reg i 3) (hi, omega arith) g;
      }

  module _ (q : Queue) (hq : Has s q) (f : P (part_of q) ≡ false) where
    pub kept_word : (k : ℕ) → k < lead + header_capacity s q → at s m (queue_word s q k) ≡ at s im (queue_word s q k)
    kept_word k hk = kept (queue_word s q k) (word_valid s q k hq hk) f

    pub kept_count : SameCount s im m q
    kept_count = (kept_word 2 (omega arith), kept_word 3 (omega arith))

    pub kept_empty : empty s m q ≡ empty s im q
    unfolding empty
    kept_empty = rw kept_count.0

    pub kept_full : full s m q ≡ full s im q
    unfolding full
    kept_full = rw (kept_count.0, kept_count.1)

    pub kept_held : Sound s im → held s m q ≡ held s im q
    kept_held h = held_frame s im m q ((sound h).queues q hq) kept_word

    pub kept_free : Sound s im → free s m q ≡ free s im q
    kept_free h = free_frame s im m q ((sound h).queues q hq) kept_word

    pub kept_first : Sound s im → first s m q ≡ first s im q
    unfolding first
    kept_first h =
        let r = (sound h).queues q hq in
        rw (kept_word 0 (omega arith)) (kept_word (lead + at s im (head s q)) (omega (arith, r.headed, r.sized)))

  pub kept_port : P Part.Ports ≡ false → P Part.OutputBuffers ≡ false → (i : Task) → i.0 < s.n → Ported s im i → Ported s m i
  kept_port f g i hi h =
      ported_frame s im m i (kept (busy i) (hi, omega arith) f) (kept (character i) (hi, omega arith) f) (kept_count (Queue.Output i) hi g).0 h

-- The queues: what appending and taking do to the words held, and what they leave as it was. Assumes nothing.
use Rattle.std.specs.Prelude.{◌≡◌, refl, not, ◌≢◌, ◌⊎◌, T, eqb, length}
use Rattle.std.proofs.Common.{sym, ◌∙◌, inl, inr, T_not}
use Rattle.std.proofs.Math.Path.{ap}
use mathlib.Core.List.{List, [], ◌∷◌, ◌++◌}
use Rattle.std.proofs.Math.Logic.{dite}
use Prim.Native.Nat.{ℕ, zero, suc, ◌+◌, ◌-◌, ◌<◌}
use Rattle.std.proofs.Math.Numerals.{add-one}
use Rattle.std.proofs.Math.Decide.{ℕ_discrete}
use native.Mathlib.Omega.{arith}
use Rattle.std.proofs.Math.Dec.{eqb_refl}
use Rattle.paper.specs.Image.{task, ord, rows, width, total, lead, cell, Valid, place, at, put}
use Rattle.paper.specs.Queues.{part_of, row_of, Has, header_capacity, queue_word, head, tail, count, capacity, slot, step, appended, first, taken, words_from, held, free}
use Rattle.paper.specs.Rules.{Queued, Zeros}
use Rattle.paper.specs.declared.Task.{Task}
use Rattle.paper.specs.declared.Shape.{Shape}
use Rattle.paper.specs.declared.Cell.{Cell}
use Rattle.paper.specs.declared.Part.{Part}
use Rattle.paper.specs.declared.Queue.{Queue}
use Rattle.laws.specs.Places.{row_below, row_same, column_same, one_cell}
use Rattle.laws.specs.Cells.{at_same, at_other, length_put}
use Rattle.laws.specs.Steps.{step_below, steps, steps_mod, steps_below, steps_on, steps_add, steps_round, steps_apart}

-- a queue is a row of its part, of four words and its slots
pub queue_row : (s : Shape) (q : Queue) → Has s q → row_of s q < rows s (part_of q)
queue_row s Queue.Ready h = omega arith
queue_row s (Queue.Input i) h = h
queue_row s (Queue.Output i) h = h
queue_row s (Queue.Message i j) h = row_below s.n h.0 h.1

pub queue_width : (s : Shape) (q : Queue) → width s (part_of q) ≡ lead + header_capacity s q
queue_width s Queue.Ready = refl
queue_width s (Queue.Input i) = refl
queue_width s (Queue.Output i) = refl
queue_width s (Queue.Message i j) = refl

pub word_valid : (s : Shape) (q : Queue) (k : ℕ) → Has s q → k < lead + header_capacity s q → Valid s (queue_word s q k)
word_valid s q k h l = (queue_row s q h, rw (queue_width s q) l)

-- the words held, one more at the end
pub words_snoc : (s : Shape) (im : List ℕ) (q : Queue) (h n : ℕ)
    → words_from s im q h (suc n) ≡ words_from s im q h n ++ (at s im (slot s q (steps h n (at s im (capacity s q)))) ∷ [])
words_snoc s im q h zero = refl
words_snoc s im q h (suc n) = ap {B = List ℕ} (λ (l : List ℕ). at s im (slot s q h) ∷ l) (words_snoc s im q (step h (at s im (capacity s q))) n)

-- they are what their slots and the capacity say
words_same : (s : Shape) (im im' : List ℕ) (q : Queue) (h n : ℕ) → at s im' (capacity s q) ≡ at s im (capacity s q)
    → ((k : ℕ) → k < n → at s im' (slot s q (steps h k (at s im (capacity s q)))) ≡ at s im (slot s q (steps h k (at s im (capacity s q)))))
    → words_from s im' q h n ≡ words_from s im q h n
words_same s im im' q h zero e f = refl
words_same s im im' q h (suc n) e f =
    rw (e, f 0 (omega arith), words_same s im im' q (step h (at s im (capacity s q))) n e (λ k l. f (suc k) (omega arith)))

-- words of slots that are 0
pub zero_words : (s : Shape) (im : List ℕ) (q : Queue) (h n : ℕ)
    → ((k : ℕ) → k < n → at s im (slot s q (steps h k (at s im (capacity s q)))) ≡ 0) → Zeros (words_from s im q h n)
zero_words s im q h zero f = tt
zero_words s im q h (suc n) f =
    (f 0 (omega arith), zero_words s im q (step h (at s im (capacity s q))) n (λ k l. f (suc k) (omega arith)))

pub zero_among : (s : Shape) (im : List ℕ) (q : Queue) (h n k : ℕ) → k < n → Zeros (words_from s im q h n)
    → at s im (slot s q (steps h k (at s im (capacity s q)))) ≡ 0
zero_among s im q h zero k l z = absurd (omega arith)
zero_among s im q h (suc n) zero l z = z.0
zero_among s im q h (suc n) (suc k) l z = zero_among s im q (step h (at s im (capacity s q))) n k (omega arith) z.1

words_length : (s : Shape) (im : List ℕ) (q : Queue) (h n : ℕ) → length (words_from s im q h n) ≡ n
words_length s im q h zero = refl
words_length s im q h (suc n) = ap suc (words_length s im q (step h (at s im (capacity s q))) n)

-- a queue whose words are as they were holds what it held, and its free slots too
module _ (s : Shape) (im im' : List ℕ) (q : Queue) (r : Queued s im q)
    (f : (k : ℕ) → k < lead + header_capacity s q → at s im' (queue_word s q k) ≡ at s im (queue_word s q k)) where
  words_frame : (h n : ℕ) → h < at s im (capacity s q) → words_from s im' q h n ≡ words_from s im q h n
  words_frame h n l =
      let c = at s im (capacity s q) in
      words_same s im im' q h n (f 3 (omega arith)) (λ k hk. f (lead + steps h k c) (omega (arith, steps_below h k c l, r.sized)))

  pub held_frame : held s im' q ≡ held s im q
  unfolding held
  held_frame = rw (f 0 (omega arith), f 2 (omega arith)) (words_frame (at s im (head s q)) (at s im (count s q)) r.headed)

  pub free_frame : free s im' q ≡ free s im q
  unfolding free
  free_frame =
      rw (f 1 (omega arith), f 2 (omega arith), f 3 (omega arith))
      (words_frame (at s im (tail s q)) (at s im (capacity s q) - at s im (count s q)) r.tailed)

-- length counts the words held
pub held_length : (s : Shape) (im : List ℕ) (q : Queue) → length (held s im q) ≡ at s im (count s q)
unfolding held
held_length s im q = words_length s im q (at s im (head s q)) (at s im (count s q))

-- a cell is not of the queue's row
abbrev pub Off : Shape → Queue → Cell → Type 0
Off s q c = c.part ≡ part_of q → c.row ≢ row_of s q

pub off_part : (s : Shape) (q : Queue) (p : Part) (i k : ℕ) → T (not (eqb (ord p) (ord (part_of q)))) → Off s q (cell p i k)
off_part s q p i k ne e = absurd (T_not (eqb (ord p) (ord (part_of q))) ne (rw (ap ord e) (eqb_refl (ord (part_of q)))))

pub off_row : (s : Shape) (q : Queue) (p : Part) (i k : ℕ) → i ≢ row_of s q → Off s q (cell p i k)
off_row s q p i k ne e = ne

-- one task has one number
pub same_task : (i j : Task) → i.0 ≡ j.0 → i ≡ j
same_task i j e = ap task e

-- a queue has its part and its row to itself
queue_same : (s : Shape) (p q : Queue) → Has s p → Has s q → part_of p ≡ part_of q → row_of s p ≡ row_of s q → p ≡ q
queue_same s Queue.Ready Queue.Ready hp hq e r = refl
queue_same s Queue.Ready (Queue.Input j) hp hq e r = absurd (let z : ◌≡◌ {A = ℕ} 2 4 = ap ord e in omega arith)
queue_same s Queue.Ready (Queue.Output j) hp hq e r = absurd (let z : ◌≡◌ {A = ℕ} 2 5 = ap ord e in omega arith)
queue_same s Queue.Ready (Queue.Message j l) hp hq e r = absurd (let z : ◌≡◌ {A = ℕ} 2 6 = ap ord e in omega arith)
queue_same s (Queue.Input i) Queue.Ready hp hq e r = absurd (let z : ◌≡◌ {A = ℕ} 4 2 = ap ord e in omega arith)
queue_same s (Queue.Input i) (Queue.Input j) hp hq e r = ap Queue.Input (same_task i j r)
queue_same s (Queue.Input i) (Queue.Output j) hp hq e r = absurd (let z : ◌≡◌ {A = ℕ} 4 5 = ap ord e in omega arith)
queue_same s (Queue.Input i) (Queue.Message j l) hp hq e r = absurd (let z : ◌≡◌ {A = ℕ} 4 6 = ap ord e in omega arith)
queue_same s (Queue.Output i) Queue.Ready hp hq e r = absurd (let z : ◌≡◌ {A = ℕ} 5 2 = ap ord e in omega arith)
queue_same s (Queue.Output i) (Queue.Input j) hp hq e r = absurd (let z : ◌≡◌ {A = ℕ} 5 4 = ap ord e in omega arith)
queue_same s (Queue.Output i) (Queue.Output j) hp hq e r = ap Queue.Output (same_task i j r)
queue_same s (Queue.Output i) (Queue.Message j l) hp hq e r = absurd (let z : ◌≡◌ {A = ℕ} 5 6 = ap ord e in omega arith)
queue_same s (Queue.Message i g) Queue.Ready hp hq e r = absurd (let z : ◌≡◌ {A = ℕ} 6 2 = ap ord e in omega arith)
queue_same s (Queue.Message i g) (Queue.Input j) hp hq e r = absurd (let z : ◌≡◌ {A = ℕ} 6 4 = ap ord e in omega arith)
queue_same s (Queue.Message i g) (Queue.Output j) hp hq e r = absurd (let z : ◌≡◌ {A = ℕ} 6 5 = ap ord e in omega arith)
queue_same s (Queue.Message i g) (Queue.Message j l) hp hq e r =
    let a : i ≡ j = same_task i j (row_same s.n i.0 j.0 g.0 l.0 hp.1 hq.1 r) in
    let b : g ≡ l = same_task g l (column_same s.n i.0 j.0 g.0 l.0 hp.1 hq.1 r) in
    rw (a, b)

-- two queues are one, or lie in different rows
pub same_queue : (s : Shape) (p q : Queue) → Has s p → Has s q → (p ≡ q) ⊎ ((k : ℕ) → Off s q (queue_word s p k))
same_queue s p q hp hq =
    dite (ℕ_discrete (place s (head s p)).0 (place s (head s q)).0)
    (λ e.
    let c = one_cell s (head s p) (head s q) (word_valid s p 0 hp (omega arith)) (word_valid s q 0 hq (omega arith)) e in
    inl (queue_same s p q hp hq (ap (λ (x : Cell). x.part) c) (ap (λ (x : Cell). x.row) c)))
    (λ ne. inr (λ k part row. ne (rw (part, row) refl)))

-- a write to a word of a queue, read at that word, at another of its words, and off its row
module _ (s : Shape) (m : List ℕ) (q : Queue) (has : Has s q) (k v : ℕ) (hk : k < lead + header_capacity s q) where
  put_same : length m ≡ total s → at s (put s m (queue_word s q k) v) (queue_word s q k) ≡ v
  put_same long = at_same s m (queue_word s q k) v (word_valid s q k has hk) long

  put_other : (l : ℕ) → l < lead + header_capacity s q → l ≢ k
      → at s (put s m (queue_word s q k) v) (queue_word s q l) ≡ at s m (queue_word s q l)
  put_other l hl ne =
      at_other s m (queue_word s q k) (queue_word s q l) v (word_valid s q k has hk) (word_valid s q l has hl)
      (λ e. ne (ap (λ (c : Cell). c.column) e))

  put_off : (c : Cell) → Valid s c → Off s q c → at s (put s m (queue_word s q k) v) c ≡ at s m c
  put_off c hc off =
      at_other s m (queue_word s q k) c v (word_valid s q k has hk) hc
      (λ e. off (ap (λ (d : Cell). d.part) e) (ap (λ (d : Cell). d.row) e))

-- zeros, one more at the end
zeros_and_one : (ws : List ℕ) → Zeros ws → Zeros (ws ++ (0 ∷ []))
zeros_and_one [] z = (refl, tt)
zeros_and_one (w ∷ ws) z = (z.0, zeros_and_one ws z.1)

module _ (s : Shape) (im : List ℕ) (q : Queue) (has : Has s q) (long : length im ≡ total s) (r : Queued s im q) where
  -- the paper's (head + length) mod capacity = tail, as steps
  pub round_steps : steps (at s im (head s q)) (at s im (count s q)) (at s im (capacity s q)) ≡ at s im (tail s q)
  round_steps = steps_mod (at s im (head s q)) (at s im (count s q)) (at s im (capacity s q)) r.headed ∙ r.round

  leading : (k : ℕ) → k < lead → k < lead + header_capacity s q
  leading k h = omega arith

  slot_in : (k : ℕ) → k < at s im (capacity s q) → lead + k < lead + header_capacity s q
  slot_in k h = omega (arith, r.sized)

  -- appending
  module _ (v : ℕ) where
    pub appended_length : length (appended s im q v) ≡ length im
    unfolding appended
    appended_length = simp length_put

    pub appended_count : at s (appended s im q v) (count s q) ≡ at s im (count s q) + 1
    unfolding appended
    appended_count = put_same s _ q has 2 _ (leading 2 (omega arith)) (simp length_put long)

    pub appended_tail : at s (appended s im q v) (tail s q) ≡ step (at s im (tail s q)) (at s im (capacity s q))
    unfolding appended
    appended_tail =
        put_other s _ q has 2 _ (leading 2 (omega arith)) 1 (leading 1 (omega arith)) (omega arith) ∙
        put_same s _ q has 1 _ (leading 1 (omega arith)) (simp length_put long)

    pub appended_slot : at s (appended s im q v) (slot s q (at s im (tail s q))) ≡ v
    unfolding appended
    appended_slot =
        let t = slot_in (at s im (tail s q)) r.tailed in
        put_other s _ q has 2 _ (leading 2 (omega arith)) _ t (omega arith) ∙
        put_other s _ q has 1 _ (leading 1 (omega arith)) _ t (omega arith) ∙ put_same s im q has _ v t long

    -- the queue's other words
    pub appended_rest : (l : ℕ) → l < lead + header_capacity s q → l ≢ 1 → l ≢ 2 → l ≢ lead + at s im (tail s q)
        → at s (appended s im q v) (queue_word s q l) ≡ at s im (queue_word s q l)
    unfolding appended
    appended_rest l hl n1 n2 n4 =
        put_other s _ q has 2 _ (leading 2 (omega arith)) l hl n2 ∙ put_other s _ q has 1 _ (leading 1 (omega arith)) l hl n1 ∙
        put_other s im q has _ v (slot_in (at s im (tail s q)) r.tailed) l hl n4

    -- every cell off its row
    pub appended_off : (c : Cell) → Valid s c → Off s q c → at s (appended s im q v) c ≡ at s im c
    unfolding appended
    appended_off c hc off =
        put_off s _ q has 2 _ (leading 2 (omega arith)) c hc off ∙ put_off s _ q has 1 _ (leading 1 (omega arith)) c hc off ∙
        put_off s im q has _ v (slot_in (at s im (tail s q)) r.tailed) c hc off

    -- append then held = held and the word
    pub appended_held : at s im (count s q) < at s im (capacity s q) → held s (appended s im q v) q ≡ held s im q ++ (v ∷ [])
    unfolding held
    appended_held room =
        let h = at s im (head s q) in
        let n = at s im (count s q) in
        let c = at s im (capacity s q) in
        let e0 = appended_rest 0 (leading 0 (omega arith)) (omega arith) (omega arith) (omega arith) in
        let e3 = appended_rest 3 (leading 3 (omega arith)) (omega arith) (omega arith) (omega arith) in
        rw (e0, appended_count, add-one, words_snoc, e3, round_steps, appended_slot)
        (ap {B = List ℕ} (λ (l : List ℕ). l ++ (v ∷ []))
        (words_same s im (appended s im q v) q h n e3 (λ k hk.
        appended_rest (lead + steps h k c) (slot_in (steps h k c) (steps_below h k c r.headed)) (omega arith) (omega arith)
        (λ e. steps_apart h k n c r.headed hk room (omega (arith, round_steps))))))

    -- and it is a queue still
    pub appended_queued : at s im (count s q) < at s im (capacity s q) → Queued s (appended s im q v) q
    appended_queued room =
        let h = at s im (head s q) in
        let n = at s im (count s q) in
        let c = at s im (capacity s q) in
        let e0 = appended_rest 0 (leading 0 (omega arith)) (omega arith) (omega arith) (omega arith) in
        let e3 = appended_rest 3 (leading 3 (omega arith)) (omega arith) (omega arith) (omega arith) in
        record {
          sized = e3 ∙ r.sized;
          headed = rw (e0, e3) r.headed;
          tailed = rw (e3, appended_tail) (step_below (at s im (tail s q)) c r.tailed);
          counted = rw (e3, appended_count) (omega arith);
          round = rw (e0, e3, appended_count, appended_tail, ← round_steps, ← steps_on h n c, add-one) (sym (steps_mod h (suc n) c r.headed));
        }

  -- taking
  pub taken_length : length (taken s im q) ≡ length im
  unfolding taken
  taken_length = simp length_put

  pub taken_count : at s (taken s im q) (count s q) ≡ at s im (count s q) - 1
  unfolding taken
  taken_count = put_same s _ q has 2 _ (leading 2 (omega arith)) (simp length_put long)

  pub taken_head : at s (taken s im q) (head s q) ≡ step (at s im (head s q)) (at s im (capacity s q))
  unfolding taken
  taken_head =
      put_other s _ q has 2 _ (leading 2 (omega arith)) 0 (leading 0 (omega arith)) (omega arith) ∙
      put_same s _ q has 0 _ (leading 0 (omega arith)) (simp length_put long)

  pub taken_slot : at s (taken s im q) (slot s q (at s im (head s q))) ≡ 0
  unfolding taken
  taken_slot =
      let h = slot_in (at s im (head s q)) r.headed in
      put_other s _ q has 2 _ (leading 2 (omega arith)) _ h (omega arith) ∙
      put_other s _ q has 0 _ (leading 0 (omega arith)) _ h (omega arith) ∙ put_same s im q has _ 0 h long

  -- the queue's other words
  pub taken_rest : (l : ℕ) → l < lead + header_capacity s q → l ≢ 0 → l ≢ 2 → l ≢ lead + at s im (head s q)
      → at s (taken s im q) (queue_word s q l) ≡ at s im (queue_word s q l)
  unfolding taken
  taken_rest l hl n0 n2 n4 =
      put_other s _ q has 2 _ (leading 2 (omega arith)) l hl n2 ∙ put_other s _ q has 0 _ (leading 0 (omega arith)) l hl n0 ∙
      put_other s im q has _ 0 (slot_in (at s im (head s q)) r.headed) l hl n4

  -- every cell off its row
  pub taken_off : (c : Cell) → Valid s c → Off s q c → at s (taken s im q) c ≡ at s im c
  unfolding taken
  taken_off c hc off =
      put_off s _ q has 2 _ (leading 2 (omega arith)) c hc off ∙ put_off s _ q has 0 _ (leading 0 (omega arith)) c hc off ∙
      put_off s im q has _ 0 (slot_in (at s im (head s q)) r.headed) c hc off

  -- the word that is taken was the first of those held
  pub taken_held : 0 < at s im (count s q) → held s im q ≡ first s im q ∷ held s (taken s im q) q
  unfolding held first
  taken_held some =
      let h = at s im (head s q) in
      let n = at s im (count s q) - 1 in
      let c = at s im (capacity s q) in
      let e : at s im (count s q) ≡ suc n = omega arith in
      let e3 = taken_rest 3 (leading 3 (omega arith)) (omega arith) (omega arith) (omega arith) in
      rw (taken_count, taken_head)
      (ap (λ (x : ℕ). words_from s im q h x) e ∙ ap {B = List ℕ} (λ (l : List ℕ). at s im (slot s q h) ∷ l)
      (sym (words_same s im (taken s im q) q (step h c) n e3 (λ k hk.
      taken_rest (lead + steps (step h c) k c) (slot_in (steps (step h c) k c) (steps_below (step h c) k c (step_below h c r.headed))) (omega arith) (omega arith)
      (λ z. steps_apart h 0 (suc k) c r.headed (omega arith) (omega (arith, r.counted)) (omega arith))))))

  pub taken_queued : 0 < at s im (count s q) → Queued s (taken s im q) q
  taken_queued some =
      let h = at s im (head s q) in
      let n = at s im (count s q) - 1 in
      let c = at s im (capacity s q) in
      let e : at s im (count s q) ≡ suc n = omega arith in
      let e1 = taken_rest 1 (leading 1 (omega arith)) (omega arith) (omega arith) (omega arith) in
      let e3 = taken_rest 3 (leading 3 (omega arith)) (omega arith) (omega arith) (omega arith) in
      record {
        sized = e3 ∙ r.sized;
        headed = rw (e3, taken_head) (step_below h c r.headed);
        tailed = rw (e1, e3) r.tailed;
        counted = rw (e3, taken_count) (omega (arith, r.counted));
        round =
            rw (e1, e3, taken_head, taken_count)
            (sym (steps_mod (step h c) n c (step_below h c r.headed)) ∙ ap (λ (x : ℕ). steps h x c) (sym e) ∙ round_steps);
      }

  -- capacity less length steps on from the tail is the head
  pub back_round : steps (at s im (tail s q)) (at s im (capacity s q) - at s im (count s q)) (at s im (capacity s q)) ≡ at s im (head s q)
  back_round =
      let h = at s im (head s q) in
      let n = at s im (count s q) in
      let c = at s im (capacity s q) in
      let whole : n + (c - n) ≡ c = omega (arith, r.counted) in
      rw (← round_steps, ← steps_add h n (c - n) c) (ap (λ (x : ℕ). steps h x c) whole ∙ steps_round h c r.headed)

  -- the slot that a word is stored in was the first of the free ones
  pub appended_free : (v : ℕ) → at s im (count s q) < at s im (capacity s q)
      → free s im q ≡ at s im (slot s q (at s im (tail s q))) ∷ free s (appended s im q v) q
  unfolding free
  appended_free v room =
      let t = at s im (tail s q) in
      let n = at s im (count s q) in
      let c = at s im (capacity s q) in
      let e : c - n ≡ suc (c - (n + 1)) = omega arith in
      let e3 = appended_rest v 3 (leading 3 (omega arith)) (omega arith) (omega arith) (omega arith) in
      rw (appended_tail v, e3, appended_count v)
      (ap (λ (x : ℕ). words_from s im q t x) e ∙ ap {B = List ℕ} (λ (l : List ℕ). at s im (slot s q t) ∷ l)
      (sym (words_same s im (appended s im q v) q (step t c) (c - (n + 1)) e3 (λ k hk.
      appended_rest v (lead + steps (step t c) k c) (slot_in (steps (step t c) k c) (steps_below (step t c) k c (step_below t c r.tailed))) (omega arith) (omega arith)
      (λ z. steps_apart t 0 (suc k) c r.tailed (omega arith) (omega arith) (omega arith))))))

  -- free slots that are 0 are so still
  pub appended_cleared : (v : ℕ) → at s im (count s q) < at s im (capacity s q) → Zeros (free s im q) → Zeros (free s (appended s im q v) q)
  appended_cleared v room z = (rw (appended_free v room) at z).1

  -- take then free = free and a 0
  pub taken_free : 0 < at s im (count s q) → free s (taken s im q) q ≡ free s im q ++ (0 ∷ [])
  unfolding free
  taken_free some =
      let t = at s im (tail s q) in
      let n = at s im (count s q) in
      let c = at s im (capacity s q) in
      let e : c - (n - 1) ≡ suc (c - n) = omega (arith, r.counted) in
      let e1 = taken_rest 1 (leading 1 (omega arith)) (omega arith) (omega arith) (omega arith) in
      let e3 = taken_rest 3 (leading 3 (omega arith)) (omega arith) (omega arith) (omega arith) in
      rw (e1, e3, taken_count, e, words_snoc, e3, back_round, taken_slot)
      (ap {B = List ℕ} (λ (l : List ℕ). l ++ (0 ∷ []))
      (words_same s im (taken s im q) q t (c - n) e3 (λ k hk.
      taken_rest (lead + steps t k c) (slot_in (steps t k c) (steps_below t k c r.tailed)) (omega arith) (omega arith)
      (λ z. steps_apart t k (c - n) c r.tailed hk (omega arith) (omega (arith, back_round))))))

  pub taken_cleared : 0 < at s im (count s q) → Zeros (free s im q) → Zeros (free s (taken s im q) q)
  taken_cleared some z = rw (taken_free some) (zeros_and_one (free s im q) z)

-- `search queues` reads past a word that was appended or taken, at any cell that is not of that queue
pub ruleset queues = (appended_off, taken_off, off_part, off_row, appended_length, taken_length, appended_queued, taken_queued)

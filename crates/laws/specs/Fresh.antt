-- The image that a right plan builds: what each of its cells holds, and that it obeys all rules. Assumes nothing.
use Rattle.std.specs.Prelude.{◌≡◌, List, [], ◌∷◌, Bool, true, false, ◌||◌, ◌↔◌, ℕ, zero, suc, ◌+◌, ◌-◌, ◌*◌, ◌%◌, ◌<◌, ◌≤◌, ltb, length, get_or, take, drop, replicate, Ok}
use Rattle.std.proofs.Math.Path.{refl, sym}
use Rattle.std.proofs.Common.{ap, ◌∙◌, true≢false, le_refl, zero-add, arith, ltb-false, le-ltb, length-append, length-drop, length-take-le, get_or-append-add, get_or-take}
use Rattle.std.proofs.Math.Bool.{and-eq-true_iff}
use Rattle.std.proofs.Math.Logic.{dite}
use Rattle.std.proofs.Math.Nat.{mod_self, zero-mod, sub_self}
use Rattle.std.proofs.Math.Decide.{dec_lt}
use Rattle.std.proofs.Math.Dec.{lit<}
use Rattle.std.proofs.lemmas.List.{length-replicate, get_or-replicate}
use Rattle.std.proofs.Math.ListN.{get_or-append}
use Rattle.paper.specs.Image.{lead, parts, ord, rows, width, size, begin, start, offsets, total, header, segment_start, cell, Valid, place, at, clock, status}
use Rattle.paper.specs.Queues.{part_of, row_of, Has, header_capacity, queue_word, tail, count, capacity, slot, words_from, held, free}
use Rattle.paper.specs.Rules.{Fit, Laid, Flagged, Queued, Characters, Zeros, Ported, Stands, Good}
use Rattle.paper.specs.Plans.{plan_tasks, segment_length, program_length, program_start, segment_words, plan_shape, joined, fresh_queue, fresh_segment, fresh_row, fresh_part, fresh}
use Rattle.paper.specs.Numbers.{plan_broken, check_plan, check}
use Rattle.paper.specs.declared.Task.{Task}
use Rattle.paper.specs.declared.Shape.{Shape}
use Rattle.paper.specs.declared.Part.{Part}
use Rattle.paper.specs.declared.Queue.{Queue}
use Rattle.laws.specs.Places.{part_at, ord_below, row_below}
use Rattle.laws.specs.Cells.{at_header}
use Rattle.laws.specs.Layout.{total_is}
use Rattle.laws.specs.Steps.{steps, steps_mod, steps_below, mod_low}
use Rattle.laws.specs.Queues.{word_valid, words_snoc, zero_words}
use Rattle.laws.specs.Checked.{equal, at_most, every_is, no_fault, ranged_is, passed, good_checked}
use Rattle.laws.specs.Consecutive.{rising, joined_ends, joined_at, joined_length, joined_row, numbers, numbers_length, numbers_at, numbers_once}

-- a right plan: its shape fits, in each pair 1 <= L and P <= L, and it ends with its last program
pub record Planned (plan : List ℕ) : Type 0 where
  pub fit : Fit (plan_shape plan)
  pub pairs : (k : ℕ) → k < plan_tasks plan → (1 ≤ segment_length plan k) × (program_length plan k ≤ segment_length plan k)
  pub ends : length plan ≡ program_start plan (plan_tasks plan)

-- a later program starts later
pub programs_later : (plan : List ℕ) (a b : ℕ) → a ≤ b → program_start plan a ≤ program_start plan b
programs_later plan = rising (program_start plan) (λ k. omega arith)

-- a number is not below another
not_below : (a b : ℕ) → (ltb a b ≡ false) ↔ (b ≤ a)
not_below a b = (ltb-false a b, le-ltb a b)

-- neither of two faults shows
neither : (a b : Bool) → (a || b ≡ false) ↔ ((a ≡ false) × (b ≡ false))
neither true b = (λ e. absurd (true≢false e), λ h. absurd (true≢false h.0))
neither false b = (λ e. (refl, e), λ h. h.1)

-- the plans that pass are the right ones, and no other
planned_is : (plan : List ℕ) → (check_plan plan ≡ Ok tt) ↔ Planned plan
unfolding check_plan plan_broken plan_shape
planned_is plan =
    simp (passed, neither, no_fault, not_below, ranged_is, every_is, and-eq-true_iff, equal, at_most) (
      λ h. let packed : (plan_shape plan).starts ≡ offsets (plan_shape plan) = refl in search depth 8,
      λ r.
          let long : 5 + 2 * plan_tasks plan ≤ length plan = omega (arith, programs_later plan 0 (plan_tasks plan) (omega arith), r.ends) in
          let five : 5 ≤ length plan = omega arith in
          search depth 8,
    )

-- what passing gives, and what gives it
pub planned : (plan : List ℕ) → check_plan plan ≡ Ok tt → Planned plan
planned plan e = (planned_is plan).0 e

pub planned_back : (plan : List ℕ) → Planned plan → check_plan plan ≡ Ok tt
planned_back plan r = (planned_is plan).1 r

-- a fresh queue has four words and its slots
pub queue_long : (c : ℕ) → length (fresh_queue c) ≡ lead + c
queue_long c = simp length-replicate (omega arith)

-- its length: the ready queue is full, the others are empty
abbrev fresh_count : Shape → Queue → ℕ
fresh_count s Queue.Ready = s.n
fresh_count s (Queue.Input i) = 0
fresh_count s (Queue.Output i) = 0
fresh_count s (Queue.Message i j) = 0

-- a length that fits a capacity, where head and tail are 0
abbrev Counts : ℕ → ℕ → Type 0
Counts n c = (1 ≤ c) × (n ≤ c) × (n % c ≡ 0)

-- such is 0
none_counts : (c : ℕ) → 1 ≤ c → Counts 0 c
none_counts c h = (h, omega arith, zero-mod c)

-- and so the length of each fresh queue
fresh_counts : (s : Shape) → Fit s → (q : Queue) → Counts (fresh_count s q) (header_capacity s q)
fresh_counts s fit Queue.Ready = (fit.tasks.0, le_refl _, mod_self _)
fresh_counts s fit (Queue.Input i) = none_counts _ fit.inputs.0
fresh_counts s fit (Queue.Output i) = none_counts _ fit.outputs.0
fresh_counts s fit (Queue.Message i j) = none_counts _ fit.messages.0

-- the image of a plan that passes
module _ (plan : List ℕ) (fine : check_plan plan ≡ Ok tt) where
  -- a segment is as long as its pair says
  pub segment_long : (k : ℕ) → k < plan_tasks plan → length (fresh_segment plan k) ≡ segment_length plan k
  segment_long k h =
      let r = planned plan fine in
      let whole : program_length plan k ≤ length (drop (program_start plan k) plan) =
      rw length-drop (omega (arith, programs_later plan (suc k) (plan_tasks plan) h, r.ends)) in
      rw (length-append, length-replicate, length-take-le (program_length plan k) (drop (program_start plan k) plan) whole)
      (omega (arith, r.pairs k h))

  -- every row has its part's width
  pub row_length : (p : Part) (i : ℕ) → length (fresh_row (plan_shape plan) plan p i) ≡ width (plan_shape plan) p
  unfolding plan_shape
  row_length Part.Header i = refl
  row_length Part.TaskTable i = refl
  row_length Part.ReadyQueue i = omega (arith, numbers_length (plan_tasks plan))
  row_length Part.StatusTable i = refl
  row_length Part.InputBuffers i = queue_long _
  row_length Part.OutputBuffers i = queue_long _
  row_length Part.MessageBuffers i = queue_long _
  row_length Part.Ports i = refl
  row_length Part.SegmentTable i = refl
  row_length Part.Segments i =
      joined_ends (fresh_segment plan) (segment_words plan) (plan_tasks plan) refl (λ k h. rw (segment_long k h)) (plan_tasks plan) (le_refl _)

  -- every part has its size
  pub part_length : (p : Part) → length (fresh_part (plan_shape plan) plan p) ≡ size (plan_shape plan) p
  part_length p = joined_length _ _ (fresh_row (plan_shape plan) plan p) (λ i _. row_length p i)

  -- and ends where the next begins
  pub part_next : (k : ℕ) → k < 10
      → begin (plan_shape plan) (suc k) ≡ begin (plan_shape plan) k + length (fresh_part (plan_shape plan) plan (get_or parts k Part.Segments))
  part_next k h = rw part_length

  -- the fresh image has T words
  pub fresh_length : length (fresh plan) ≡ total (plan_shape plan)
  unfolding fresh total
  fresh_length =
      joined_ends (λ k. fresh_part (plan_shape plan) plan (get_or parts k Part.Segments)) (begin (plan_shape plan)) 10 refl part_next 10 (le_refl 10)

  -- a cell holds what its row has in its column
  pub fresh_at : (p : Part) (i k : ℕ) → Valid (plan_shape plan) (cell p i k)
      → at (plan_shape plan) (fresh plan) (cell p i k) ≡ get_or (fresh_row (plan_shape plan) plan p i) k 0
  unfolding fresh at place
  fresh_at p i k v =
      let s = plan_shape plan in
      joined_at (λ j. fresh_part s plan (get_or parts j Part.Segments)) (begin s) 10 refl part_next (ord p) (i * width s p + k) (ord_below p)
      (rw (part_at, part_length) (row_below (width s p) v.0 v.1)) ∙
      rw part_at (joined_row (rows s p) (width s p) (fresh_row s plan p) (λ j _. row_length p j) i k v.0 v.1)

  -- the clock is S
  pub fresh_clock : at (plan_shape plan) (fresh plan) clock ≡ (plan_shape plan).slice
  fresh_clock = fresh_at Part.Header 0 17 (lit< tt, lit< tt)

  -- each segment starts after those before it
  segments_start : (k : ℕ) → k ≤ (plan_shape plan).n
      → segment_start (plan_shape plan) (fresh plan) k ≡ start (plan_shape plan) Part.Segments + segment_words plan k
  segments_start zero h = omega arith
  segments_start (suc k) h = omega (arith, segments_start k (omega arith), fresh_at Part.SegmentTable k 1 (h, lit< tt))

  -- the layout
  fresh_laid : Laid (plan_shape plan) (fresh plan)
  unfolding plan_shape
  fresh_laid =
      let s = plan_shape plan in
      let r = planned plan fine in
      record {
        fit = r.fit;
        words = fresh_length;
        headed = λ k h.
            sym (at_header s (fresh plan) k) ∙ fresh_at Part.Header 0 k (lit< tt, omega arith) ∙
            get_or-append (header s) (s.slice ∷ []) 0 k h;
        bases = λ i h. omega (arith, segments_start i.0 (omega arith), fresh_at Part.SegmentTable i.0 0 (h, lit< tt));
        lengths = λ i h. omega (arith, r.pairs i.0 h, fresh_at Part.SegmentTable i.0 1 (h, lit< tt));
        ends = omega (arith, segments_start s.n (le_refl _), total_is s);
      }

  -- the first four words of a queue
  lead_is : (q : Queue) → take lead (fresh_row (plan_shape plan) plan (part_of q) (row_of (plan_shape plan) q)) ≡
      0 ∷ 0 ∷ fresh_count (plan_shape plan) q ∷ header_capacity (plan_shape plan) q ∷ []
  lead_is Queue.Ready = refl
  lead_is (Queue.Input i) = refl
  lead_is (Queue.Output i) = refl
  lead_is (Queue.Message i j) = refl

  -- so its words read
  fresh_lead : (q : Queue) (k : ℕ) → Has (plan_shape plan) q → k < lead
      → at (plan_shape plan) (fresh plan) (queue_word (plan_shape plan) q k) ≡
      get_or (0 ∷ 0 ∷ fresh_count (plan_shape plan) q ∷ header_capacity (plan_shape plan) q ∷ []) k 0
  fresh_lead q k has h =
      let s = plan_shape plan in
      fresh_at (part_of q) (row_of s q) k (word_valid s q k has (omega arith)) ∙
      sym (get_or-take lead (fresh_row s plan (part_of q) (row_of s q)) k 0 h) ∙ ap (λ (l : List ℕ). get_or l k 0) (lead_is q)

  -- every queue is in order
  fresh_queued : (q : Queue) → Has (plan_shape plan) q → Queued (plan_shape plan) (fresh plan) q
  fresh_queued q has =
      let counts = fresh_counts (plan_shape plan) (planned plan fine).fit q in
      let at_head = fresh_lead q 0 has (lit< tt) in
      let at_tail = fresh_lead q 1 has (lit< tt) in
      let at_count = fresh_lead q 2 has (lit< tt) in
      let at-capacity = fresh_lead q 3 has (lit< tt) in
      record {
        sized = at-capacity;
        headed = omega arith;
        tailed = omega arith;
        counted = omega arith;
        round = rw (at_head, at_tail, at_count, at-capacity, zero-add) counts.2;
      }

  -- each slot of a buffer is 0
  fresh_slot : (q : Queue) (k : ℕ) → Has (plan_shape plan) q → k < header_capacity (plan_shape plan) q
      → fresh_row (plan_shape plan) plan (part_of q) (row_of (plan_shape plan) q) ≡ fresh_queue (header_capacity (plan_shape plan) q)
      → at (plan_shape plan) (fresh plan) (slot (plan_shape plan) q k) ≡ 0
  fresh_slot q k has l e =
      let s = plan_shape plan in
      let c = header_capacity s q in
      fresh_at (part_of q) (row_of s q) (lead + k) (word_valid s q (lead + k) has (omega arith)) ∙
      rw e (get_or-append-add (0 ∷ 0 ∷ 0 ∷ c ∷ []) (replicate c 0) k 0 ∙ get_or-replicate c k 0 0 l)

  -- so its free slots are
  buffer_cleared : (q : Queue) → Has (plan_shape plan) q
      → fresh_row (plan_shape plan) plan (part_of q) (row_of (plan_shape plan) q) ≡ fresh_queue (header_capacity (plan_shape plan) q)
      → Zeros (free (plan_shape plan) (fresh plan) q)
  unfolding free
  buffer_cleared q has e =
      let s = plan_shape plan in
      let r = fresh_queued q has in
      let t = at s (fresh plan) (tail s q) in
      let c = at s (fresh plan) (capacity s q) in
      zero_words s (fresh plan) q t (c - at s (fresh plan) (count s q))
      (λ k l. fresh_slot q (steps t k c) has (omega (arith, steps_below t k c r.tailed, r.sized)) e)

  -- and the ready queue, which is full, has none
  fresh_cleared : (q : Queue) → Has (plan_shape plan) q → Zeros (free (plan_shape plan) (fresh plan) q)
  unfolding free
  fresh_cleared Queue.Ready has =
      rw (fresh_lead Queue.Ready 3 has (lit< tt), fresh_lead Queue.Ready 2 has (lit< tt), sub_self (plan_shape plan).n) tt
  fresh_cleared (Queue.Input i) has = buffer_cleared (Queue.Input i) has refl
  fresh_cleared (Queue.Output i) has = buffer_cleared (Queue.Output i) has refl
  fresh_cleared (Queue.Message i j) has = buffer_cleared (Queue.Message i j) has refl

  -- an empty queue holds no word over 255
  fresh_characters : (q : Queue) → Has (plan_shape plan) q → fresh_count (plan_shape plan) q ≡ 0
      → Characters (held (plan_shape plan) (fresh plan) q)
  unfolding held
  fresh_characters q has e = rw (fresh_lead q 2 has (lit< tt), e) tt

  -- slot k of the ready queue holds task k
  ready_slot : (k : ℕ) → k < (plan_shape plan).n → at (plan_shape plan) (fresh plan) (slot (plan_shape plan) Queue.Ready k) ≡ k
  ready_slot k h =
      let s = plan_shape plan in
      fresh_at Part.ReadyQueue 0 (lead + k) (lit< tt, omega arith) ∙
      get_or-append-add (0 ∷ 0 ∷ s.n ∷ s.n ∷ []) (numbers s.n) k 0 ∙ numbers_at s.n k h

  -- its first m words are 0..m-1
  ready_words : (m : ℕ) → m ≤ (plan_shape plan).n → words_from (plan_shape plan) (fresh plan) Queue.Ready 0 m ≡ numbers m
  ready_words zero h = refl
  ready_words (suc m) h =
      let s = plan_shape plan in
      let e : steps 0 m s.n ≡ m = steps_mod 0 m s.n (omega arith) ∙ rw zero-add (mod_low h) in
      rw (words_snoc, fresh_lead Queue.Ready 3 tt (lit< tt), e, ready_slot m h, ready_words m (omega arith))

  -- all tasks are ready in order 0..N-1
  pub fresh_ready : held (plan_shape plan) (fresh plan) Queue.Ready ≡ joined (plan_tasks plan) (λ k. k ∷ [])
  unfolding held plan_shape
  fresh_ready = rw (fresh_lead Queue.Ready 0 tt (lit< tt), fresh_lead Queue.Ready 2 tt (lit< tt)) (ready_words (plan_tasks plan) (le_refl _))

  -- task i: its flags, status, peer and port are 0, and so obey their rules
  module _ (i : Task) (h : i.0 < (plan_shape plan).n) where
    fresh_flags : Flagged (plan_shape plan) (fresh plan) i
    fresh_flags = omega (arith, fresh_at Part.TaskTable i.0 8 (h, lit< tt))

    fresh_status : at (plan_shape plan) (fresh plan) (status i) ≡ 0
    fresh_status = fresh_at Part.StatusTable i.0 0 (h, lit< tt)

    fresh_stands : Stands (plan_shape plan) (fresh plan) i
    fresh_stands = omega (arith, fresh_status, fresh_at Part.StatusTable i.0 1 (h, lit< tt))

    fresh_port : Ported (plan_shape plan) (fresh plan) i
    fresh_port =
        let word = fresh_at Part.Ports i.0 in
        omega (arith, word 0 (h, lit< tt), word 1 (h, lit< tt), fresh_lead (Queue.Output i) 2 h (lit< tt))

  -- the fresh image obeys all rules
  pub fresh_good : Good (plan_shape plan) (fresh plan)
  unfolding plan_shape
  fresh_good =
      let n = plan_tasks plan in
      record {
        laid = fresh_laid;
        flags = fresh_flags;
        queues = fresh_queued;
        cleared = fresh_cleared;
        inputs_held = λ i h. fresh_characters (Queue.Input i) h refl;
        outputs_held = λ i h. fresh_characters (Queue.Output i) h refl;
        ready = λ i h. rw fresh_ready ((numbers_once i.0 n).0 h.0);
        no_other = λ i ne.
            rw fresh_ready
            (dite (dec_lt i.0 n) (λ l. absurd (ne (l, fresh_status i l))) (λ m. (numbers_once i.0 n).1 (omega arith)));
        clock_range = omega (arith, fresh_clock);
        clock_idle = λ e. absurd (omega (arith, fresh_lead Queue.Ready 2 tt (lit< tt), (planned plan fine).fit.tasks));
        ports = fresh_port;
        statuses = fresh_stands;
      }

  -- and so passes the check
  pub fresh_checked : check (fresh plan) ≡ Ok tt
  fresh_checked = good_checked (plan_shape plan) (fresh plan) fresh_good

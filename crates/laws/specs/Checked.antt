-- The check passes the images that obey the rules, and no other: each computed test says what its rule says. Assumes nothing.
use Rattle.std.specs.Prelude.{◌≡◌, refl, List, [], ◌∷◌, Bool, true, false, not, cond, ◌&&◌, ◌||◌, ◌≢◌, ◌↔◌, ℕ, zero, suc, ◌+◌, ◌<◌, ◌≤◌, eqb, leb, length, get_or, Err, Ok, Result, ⊤}
use Rattle.std.proofs.Common.{sym, ap, ◌∙◌, true≢false, arith, ltb-false, le-ltb, leb-true, le-leb, eqb-true, eq-eqb, ne_eqb, lit<, ext_get_or}
use Rattle.std.proofs.Math.Bool.{So, and-eq-true_iff}
use Rattle.std.proofs.lemmas.Bool.{false≢true}
use Rattle.std.proofs.Math.Logic.{dite}
use Rattle.std.proofs.Math.Logic.Iff
use Rattle.std.proofs.Math.Decide.{ℕ_discrete, dec_lt}
use Rattle.paper.specs.Image.{task, header_words, mark, edition, most_tasks, most_slice, most_capacity, most_words, most_character, offsets, total, header, header_word, shape_of, segment_start, at, clock, base, len}
use Rattle.paper.specs.Queues.{Has, capacity, slot, step, words_from, held, free, empty, full}
use Rattle.paper.specs.Rules.{Within, Laid, Flagged, Queued, Empty, Characters, Zeros, times, Ready, Ported, Stands, Good}
use Rattle.paper.specs.Tests.{every, all_below, queued, cleared, queue_holds, readied_tasks, clock_holds, buffers_hold, characters, readied_once, port_holds, flags_hold, status_holds, task_holds, rules_hold}
use Rattle.paper.specs.Numbers.{number, verdict_number, refused_if, too_short, not_marked, out_of_range, not_packed, segment_right, wrong_segments, check, and_then}
use Rattle.paper.specs.declared.Task.{Task}
use Rattle.paper.specs.declared.Shape.{Shape}
use Rattle.paper.specs.declared.Queue.{Queue}
use Rattle.paper.specs.declared.Refusal.{Refusal}
use Rattle.laws.specs.Layout.{shape_is, smallest_total}
use Rattle.laws.specs.Steps.{steps}
use Rattle.laws.specs.Sound.{Sound, shut}

-- two numbers are equal
pub equal : (a b : ℕ) → So (eqb a b) ↔ (a ≡ b)
equal a b = (eqb-true a b, eq-eqb a b)

-- one is at most the other; a < b says so of suc a and b, as a test and as a statement
pub at_most : (a b : ℕ) → So (leb a b) ↔ (a ≤ b)
at_most a b = (leb-true a b, le-leb a b)

-- not
denied : (a : Bool) → So (not a) ↔ (¬ So a)
denied true = (λ e _. false≢true e, λ f. absurd (f refl))
denied false = (λ _ e. false≢true e, λ _. refl)

-- where a holds, b does
pub implied : (a b : Bool) → So (not a || b) ↔ (So a → So b)
implied true b = (λ e _. e, λ f. f refl)
implied false b = (λ _ e. absurd (false≢true e), λ _. refl)

-- a or b
either : (a b : Bool) → So (a || b) ↔ (¬ So a → So b)
either true b = (λ _ n. absurd (n refl), λ _. refl)
either false b = (λ e _. e, λ f. f false≢true)

-- a, b or c
one_of_three : (a b c : Bool) → So (a || b || c) ↔ (¬ So a → ¬ So b → So c)
one_of_three true b c = (λ _ n. absurd (n refl), λ _. refl)
one_of_three false b c = (λ e _. (either b c).0 e, λ f. (either b c).1 (f false≢true))

-- a, b and c, as the rules put three statements side by side
pub all_three : (a b c : Bool) → So (a && b && c) ↔ (So a × So b × So c)
all_three true b c = (λ e. let h = (and-eq-true_iff b c).0 e in (refl, h.0, h.1), λ h. (and-eq-true_iff b c).1 (h.1, h.2))
all_three false b c = (λ e. absurd (false≢true e), λ h. absurd (false≢true h.0))

-- a statement of every number below n, and of n
upto : (P : ℕ → Type 0) (n : ℕ) → (((k : ℕ) → k < n → P k) × P n) ↔ ((k : ℕ) → k < suc n → P k)
upto P n =
    (λ h k l. dite (ℕ_discrete k n) (λ e. rw e h.1) (λ ne. h.0 k (omega arith)), λ f. (λ k l. f k (omega arith), f n (omega arith)))

-- a test passes at each number below n
pub every_is : (n : ℕ) (f : ℕ → Bool) → So (every n f) ↔ ((k : ℕ) → k < n → So (f k))
unfolding every
every_is zero f = (λ _ k l. absurd (omega arith), λ _. refl)
every_is (suc n) f = simp (and-eq-true_iff, every_is n f) (upto (λ (k : ℕ). So (f k)) n)

-- `simp tests` turns a test into what it says
ruleset tests = (all_three, and-eq-true_iff, equal, at_most, denied, implied, one_of_three, either, every_is)

-- two lists of one length are alike at every place
alike : (n : ℕ) (l m : List ℕ) → length l ≡ n → length m ≡ n → So (every n (λ k. eqb (get_or l k 0) (get_or m k 0))) ↔ (l ≡ m)
alike n l m el em =
    simp tests (λ f. ext_get_or 0 l m (el ∙ sym em) (λ k h. f k (omega arith)), λ e k h. ap (λ (x : List ℕ). get_or x k 0) e)

-- the words of a list are characters
characters_are : (ws : List ℕ) → So (all_below (most_character + 1) ws) ↔ Characters ws
characters_are [] = (λ _. tt, λ _. refl)
characters_are (w ∷ ws) = simp (tests, characters_are ws) (λ h. (omega arith, h.1), λ h. (omega arith, h.1))

-- the words of a list are 0
zeros_are : (ws : List ℕ) → So (all_below 1 ws) ↔ Zeros ws
zeros_are [] = (λ _. tt, λ _. refl)
zeros_are (w ∷ ws) = simp (tests, zeros_are ws) (λ h. (omega arith, h.1), λ h. (omega arith, h.1))

-- the words of n slots from slot h on are below m
pub slots_below : (s : Shape) (im : List ℕ) (q : Queue) (m h n : ℕ) → So (all_below m (words_from s im q h n)) ↔
    ((i : ℕ) → i < n → at s im (slot s q (steps h i (at s im (capacity s q)))) < m)
slots_below s im q m h zero = (λ _ i l. absurd (omega arith), λ _. refl)
slots_below s im q m h (suc n) =
    simp (tests, slots_below s im q m (step h (at s im (capacity s q))) n)
    (λ a i l. first_or_later a i l, λ f. (f 0 (omega arith), λ i l. f (suc i) (omega arith)))
  where
    first_or_later : (at s im (slot s q h) < m) ×
        ((i : ℕ) → i < n → at s im (slot s q (steps (step h (at s im (capacity s q))) i (at s im (capacity s q)))) < m)
        → (i : ℕ) → i < suc n → at s im (slot s q (steps h i (at s im (capacity s q)))) < m
    first_or_later a zero l = a.0
    first_or_later a (suc i) l = a.1 i (omega arith)

-- a list of words below m holds no other word
below_is : (m : ℕ) (ws : List ℕ) → So (all_below m ws) ↔ ((x : ℕ) → m ≤ x → times x ws ≡ 0)
below_is m [] = (λ _ x h. refl, λ _. refl)
below_is m (w ∷ ws) =
    simp (tests, below_is m ws) (
      λ h x l. rw (ne_eqb x w (omega arith)) (omega (arith, h.1 x l)),
      λ f. (
        dite (dec_lt w m) (λ l. l) (λ n. absurd (let z = rw (eq-eqb w w refl) at (f w (omega arith)) in omega arith)),
        λ x l. omega (arith, f x l),
      ),
    )

-- a count is 1 where a word is 0, and else 0
count_is : (t x : ℕ) → So (eqb t (cond (eqb x 0) 1 0)) ↔ ((x ≡ 0 → t ≡ 1) × (x ≢ 0 → t ≡ 0))
count_is t x =
    simp equal
    (dite (ℕ_discrete x 0) (λ e. rw (eq-eqb x 0 e) (λ h. (λ _. h, λ n. absurd (n e)), λ h. h.0 e))
    (λ n. rw (ne_eqb x 0 n) (λ h. (λ e. absurd (n e), λ _. h), λ h. h.1 n)))

-- the rules, each as its test
module _ (s : Shape) (im : List ℕ) where
  -- every queue
  pub queued_is : (q : Queue) → So (queued s im q) ↔ Queued s im q
  unfolding queued
  queued_is q = simp tests (λ h. search, λ r. search)

  -- its free slots
  pub cleared_is : (q : Queue) → So (cleared s im q) ↔ Zeros (free s im q)
  unfolding cleared
  cleared_is q = zeros_are (free s im q)

  -- both
  abbrev pub Kept : Queue → Type 0
  Kept q = Queued s im q × Zeros (free s im q)

  pub kept_is : (q : Queue) → So (queue_holds s im q) ↔ Kept q
  unfolding queue_holds
  kept_is q = simp (tests, queued_is, cleared_is) Iff.rfl

  -- the clock
  clock_is : So (clock_holds s im) ↔ ((at s im clock ≤ s.slice) × (Empty s im Queue.Ready → at s im clock ≡ 0))
  unfolding clock_holds empty
  clock_is = simp tests Iff.rfl

  -- the buffers of task i
  pub buffers_are : (i : Task) → So (buffers_hold s im i) ↔
      (Kept (Queue.Input i) × Kept (Queue.Output i) × ((k : ℕ) → k < s.n → Kept (Queue.Message i (task k))))
  unfolding buffers_hold
  buffers_are i = simp (tests, kept_is) Iff.rfl

  -- the input and output buffer of task i hold characters
  held_are : (i : Task) → So (characters s im i) ↔ (Characters (held s im (Queue.Input i)) × Characters (held s im (Queue.Output i)))
  unfolding characters
  held_are i = simp (tests, characters_are) Iff.rfl

  -- the port of task i
  ported_is : (i : Task) → So (port_holds s im i) ↔ Ported s im i
  unfolding port_holds empty
  ported_is i = simp tests (λ h. search, λ r. search)

  -- the flags of task i
  flagged_is : (i : Task) → So (flags_hold s im i) ↔ Flagged s im i
  unfolding flags_hold
  flagged_is i = simp tests (λ h. search, λ r. search)

  -- the status of task i
  stands_is : (i : Task) → So (status_holds s im i) ↔ Stands s im i
  unfolding status_holds empty full
  stands_is i = simp tests (λ h. search, λ r. search)

  -- every queue is the ready queue or a buffer of a task
  queues_are : (Kept Queue.Ready × ((i : Task) → i.0 < s.n → So (buffers_hold s im i))) ↔ ((q : Queue) → Has s q → Kept q)
  queues_are = (
    λ h. go h.0 h.1,
    λ g. (g Queue.Ready tt, λ i l. (buffers_are i).1 (g (Queue.Input i) l, g (Queue.Output i) l, λ k m. g (Queue.Message i (task k)) (l, m))),
  )
    where
      go : Kept Queue.Ready → ((i : Task) → i.0 < s.n → So (buffers_hold s im i)) → (q : Queue) → Has s q → Kept q
      go r f Queue.Ready h = r
      go r f (Queue.Input i) h = ((buffers_are i).0 (f i h)).0
      go r f (Queue.Output i) h = ((buffers_are i).0 (f i h)).1
      go r f (Queue.Message i j) h = ((buffers_are i).0 (f i h.0)).2 j.0 h.1

  -- the ready queue holds each ready task once, and no other
  ready_is : (So (readied_tasks s im) × ((k : ℕ) → k < s.n → So (readied_once s im (task k)))) ↔
      (((i : Task) → Ready s im i → times i.0 (held s im Queue.Ready) ≡ 1) ×
      ((i : Task) → ¬ Ready s im i → times i.0 (held s im Queue.Ready) ≡ 0))
  unfolding readied_tasks readied_once
  ready_is =
      simp (below_is, count_is) (
        λ h. (
          λ i r. (h.1 i.0 r.0).0 r.1,
          λ i n. dite (dec_lt i.0 s.n) (λ l. (h.1 i.0 l).1 (λ e. n (l, e))) (λ m. h.0 i.0 (omega arith)),
        ),
        λ f. (λ x l. f.1 (task x) (λ r. omega arith), λ k l. (λ e. f.0 (task k) (l, e), λ n. f.1 (task k) (λ r. n r.1))),
      )

  -- the rules of task i, side by side
  task_is : (i : Task) → So (task_holds s im i) ↔
      (So (buffers_hold s im i) × So (characters s im i) × So (readied_once s im i) × So (port_holds s im i) × So (flags_hold s im i) ×
      So (status_holds s im i))
  unfolding task_holds
  task_is i = simp (all_three, and-eq-true_iff) (λ h. search, λ r. search)

  -- all rules
  rules_are : Laid s im → So (rules_hold s im) ↔ Good s im
  unfolding rules_hold
  rules_are laid =
      simp (tests, kept_is, clock_is, task_is, held_are, ported_is, flagged_is, stands_is) (
        λ h.
            let each : (i : Task) → i.0 < s.n → _ = λ i. h.2 i.0 in
            let ready = ready_is.0 (h.0.1, λ k l. (h.2 k l).2) in
            let kept = queues_are.0 (h.0.0, λ i l. (each i l).0) in
            record {
              laid = laid;
              flags = λ i l. (each i l).4;
              queues = λ q has. (kept q has).0;
              cleared = λ q has. (kept q has).1;
              inputs_held = λ i l. (each i l).1.0;
              outputs_held = λ i l. (each i l).1.1;
              ready = ready.0;
              no_other = ready.1;
              clock_range = h.1.0;
              clock_idle = h.1.1;
              ports = λ i l. (each i l).3;
              statuses = λ i l. (each i l).5;
            },
        λ g.
            let ready = ready_is.1 (g.ready, g.no_other) in
            let queues = queues_are.1 (λ q has. (g.queues q has, g.cleared q has)) in (
              (queues.0, ready.0),
              (g.clock_range, g.clock_idle),
              λ k l.
                  let i = task k in
                  (queues.1 i l, (g.inputs_held i l, g.outputs_held i l), ready.1 k l, g.ports i l, g.flags i l, g.statuses i l),
            ),
      )

-- a fault that does not show
pub no_fault : (b : Bool) → (not b ≡ false) ↔ So b
no_fault true = (λ _. refl, λ _. refl)
no_fault false = (λ e. absurd (true≢false e), λ e. absurd (false≢true e))

-- 1: 18 words or more
pub long_is : (im : List ℕ) → (too_short im ≡ false) ↔ (header_words ≤ length im)
long_is im = (ltb-false (length im) header_words, le-ltb (length im) header_words)

-- 2: mark and edition
pub marked_is : (im : List ℕ) → (not_marked im ≡ false) ↔ ((header_word im 0 ≡ mark) × (header_word im 1 ≡ edition))
marked_is im = simp (no_fault, tests) Iff.rfl

-- 3: N, S and the capacities in range
pub ranged_is : (s : Shape) → (out_of_range s ≡ false) ↔
    (Within 1 most_tasks s.n × Within 1 most_slice s.slice × Within 1 most_capacity s.ci × Within 1 most_capacity s.co ×
    Within 1 most_capacity s.cm)
unfolding out_of_range
ranged_is s = simp (no_fault, tests) (λ h. search, λ r. search)

-- 4: the offsets packed
pub packed_is : (s : Shape) → length s.starts ≡ 9 → (not_packed s ≡ false) ↔ (s.starts ≡ offsets s)
unfolding not_packed
packed_is s e = simp no_fault (alike 9 s.starts (offsets s) e refl)

-- 5: the segments and T
pub segments_are : (s : Shape) (im : List ℕ) → (wrong_segments s im ≡ false) ↔
    ((header_word im 16 ≡ total s) × (total s ≤ most_words) × (length im ≡ total s) × (segment_start s im s.n ≡ total s) ×
    ((k : ℕ) → k < s.n → (at s im (base (task k)) ≡ segment_start s im k) × (1 ≤ at s im (len (task k)))))
unfolding wrong_segments segment_right
segments_are s im = simp (no_fault, tests) (λ h. search, λ r. search)

-- words 0..16 are what the header's table says
headed : (im : List ℕ) → header_word im 0 ≡ mark → header_word im 1 ≡ edition → (shape_of im).starts ≡ offsets (shape_of im)
    → header_word im 16 ≡ total (shape_of im) → (k : ℕ) → k < 17 → header_word im k ≡ get_or (header (shape_of im)) k 0
unfolding shape_of every
headed im m e p t k l =
    let o = simp tests at ((alike 9 (shape_of im).starts (offsets (shape_of im)) refl refl).1 p) in
    let all = (every_is 17 (λ j. eqb (header_word im j) (get_or (header (shape_of im)) j 0))).0 (simp tests (search depth 12)) in
    (equal (header_word im k) _).0 (all k l)

-- the layout of an image of the shape that its header gives
laid_is : (im : List ℕ) →
    ((not_marked im ≡ false) × (out_of_range (shape_of im) ≡ false) × (not_packed (shape_of im) ≡ false) ×
    (wrong_segments (shape_of im) im ≡ false)) ↔ Laid (shape_of im) im
unfolding shape_of
laid_is im =
    let s = shape_of im in (
      λ h.
          let m = (marked_is im).0 h.0 in
          let r = (ranged_is s).0 h.1 in
          let p = (packed_is s refl).0 h.2 in
          let g = (segments_are s im).0 h.3 in
          record {
            fit = search;
            words = g.2;
            headed = headed im m.0 m.1 p g.0;
            bases = λ i l. (g.4 i.0 l).0;
            lengths = λ i l. (g.4 i.0 l).1;
            ends = g.3;
          },
      λ d.
          let f = d.fit in (
            (marked_is im).1 (d.headed 0 (lit< tt), d.headed 1 (lit< tt)),
            (ranged_is s).1 (search),
            (packed_is s refl).1 f.packed,
            (segments_are s im).1 (d.headed 16 (lit< tt), f.words, d.words, d.ends, λ k l. (d.bases (task k) l, d.lengths (task k) l)),
          ),
    )

-- one test of several in their order
pub passed : (b : Bool) (r : Refusal) (v : Result ⊤ Refusal) → (refused_if b r v ≡ Ok tt) ↔ ((b ≡ false) × (v ≡ Ok tt))
passed true r v = (λ e. absurd (let z : ◌≡◌ {A = ℕ} 0 1 = cc in omega arith), λ h. absurd (true≢false h.0))
passed false r v = (λ e. (refl, e), λ h. h.1)

-- the check passes the images that are good, in the shape that their header gives, and no other
check_is : (im : List ℕ) → (check im ≡ Ok tt) ↔ Good (shape_of im) im
unfolding check
check_is im =
    let rules = rules_are (shape_of im) im in
    simp passed (
      λ h. (rules ((laid_is im).0 (search))).0 ((no_fault (rules_hold (shape_of im) im)).0 (search)),
      λ g.
          let long = (long_is im).1 (omega (arith, smallest_total (shape_of im) im g.laid, g.laid.words)) in
          let laid = (laid_is im).1 g.laid in
          let last = (no_fault (rules_hold (shape_of im) im)).1 ((rules g.laid).1 g) in
          search depth 7,
    )

-- what the check passes is good
pub checked_good : (im : List ℕ) → check im ≡ Ok tt → Good (shape_of im) im
checked_good im e = (check_is im).0 e

-- and what is good, in whatever shape, the check passes
pub good_checked : (s : Shape) (im : List ℕ) → Good s im → check im ≡ Ok tt
good_checked s im g = (check_is im).1 (rw (shape_is s im g.laid) g)

-- each refusal has a number of its own, and none is 0
number_some : (r : Refusal) → 1 ≤ number r
number_some Refusal.TooShort = omega arith
number_some Refusal.NotMarked = omega arith
number_some Refusal.OutOfRange = omega arith
number_some Refusal.NotPacked = omega arith
number_some Refusal.WrongSegments = omega arith
number_some Refusal.RuleBroken = omega arith
number_some Refusal.MalformedEvent = omega arith
number_some Refusal.InputFull = omega arith
number_some Refusal.PortIdle = omega arith
number_some Refusal.BadPlan = omega arith
number_some Refusal.WrongTarget = omega arith
number_some Refusal.CountFull = omega arith

-- a refusal is not fine
pub never_fine : (r : Refusal) → ◌≡◌ {A = Result ⊤ Refusal} (Err r) (Ok tt) → ⊥
never_fine r e = let z : ◌≡◌ {A = ℕ} 0 1 = cc in omega arith

pub zero_is : (v : Result ⊤ Refusal) → (verdict_number v ≡ 0) ↔ (v ≡ Ok tt)
zero_is (Ok tt) = (λ _. refl, λ _. refl)
zero_is (Err r) = (λ e. absurd (omega (arith, number_some r)), λ e. absurd (never_fine r e))

-- two verdicts in turn are fine where both are
pub then_fine : (first later : Result ⊤ Refusal) → and_then first later ≡ Ok tt → (first ≡ Ok tt) × (later ≡ Ok tt)
then_fine (Ok tt) later e = (refl, e)
then_fine (Err r) later e = absurd (never_fine r e)

-- the number that the check returns is 0 exactly when the image is good
pub check_zero : (im : List ℕ) → (verdict_number (check im) ≡ 0) ↔ Good (shape_of im) im
check_zero im = (λ e. checked_good im ((zero_is (check im)).0 e), λ g. (zero_is (check im)).1 (good_checked (shape_of im) im g))

-- a good image is sound, and so is one that was inspected and found fine
pub good_sound : (s : Shape) (im : List ℕ) → Good s im → Sound s im
good_sound s im g = shut record { laid = g.laid; queues = g.queues }

-- All buffers at once: the rows of a part are its queues, and lie in the image. Assumes nothing.
use mathlib.Core.Path.{◌≡◌, refl, sym, ◌∙◌}
use mathlib.Core.List.{List}
use mathlib.Core.Bool.{Bool, true, false, ◌&&◌, So, and-eq-true_iff, true≢false, false≢true}
use mathlib.Core.Logic.{◌↔◌, dite}
use Prim.Native.Nat.{ℕ, ◌+◌, ◌-◌, ◌*◌, ◌/◌, ◌%◌, ◌<◌, ◌≤◌}
use native.Mathlib.Nat.{mul-le-mul_right, mod-lt, div-add-mod', div-lt_iff_lt-mul}
use native.Mathlib.Decide.{dec_lt}
use native.Mathlib.Omega.{arith}
use borrow.Author.Tests.{eqb-true, lt-ltb, le-ltb, ltb-true}
use lib.Dec.{eqb, ltb}
use lib.ListN.{length, get_or}
use Rattle.paper.specs.Image.{lead, most_character, most_words, most_capacity, begin, start, total, place_at, place, at, task}
use Rattle.paper.specs.Queues.{Has, header_capacity, queue_word, head, tail, count, capacity, slot, words_from, held, free}
use Rattle.paper.specs.Rules.{Queued}
use Rattle.paper.specs.Tests.{every_task, all_below, implies, queued, cleared, queue_holds, buffers_hold, characters}
use Rattle.paper.specs.declared.Place.{Place}
use Rattle.paper.specs.declared.Shape.{Shape}
use Rattle.paper.specs.declared.Part.{Part}
use Rattle.paper.specs.declared.Queue.{Queue}
use Rattle.laws.specs.Places.{begins_later, below, row_below, row_same, column_same}
use Rattle.laws.specs.Steps.{steps}
use Rattle.laws.specs.Queues.{word_valid}
use Rattle.laws.specs.Sound.{Sized, sized_fit, sized_words}
use Rattle.laws.specs.Checked.{all_three, implied, every_is, slots_below, queued_is, cleared_is, Kept, kept_is, buffers_are}
use Rattle.queue_rows.specs.BufferRows.{row_queued, slot_at, row_words_below, row_cleared, row_typed, row_right, row_fine, row_at, RowsBetween, AllRight}
use Rattle.connectives.specs.Failing.{refuted, together}

-- two numbers that are tested to be a third
pub both_same : (a b c : ℕ) (r : Bool) → r ≡ (eqb a c && eqb b c) → r ≡ true → (a ≡ c) × (b ≡ c)
both_same a b c r e t = let h = (and-eq-true_iff (eqb a c) (eqb b c)).0 (sym e ∙ t) in (eqb-true a c h.0, eqb-true b c h.1)

module _ (s : Shape) (im : List ℕ) (z : Sized s im) where
  inside : (k : ℕ) → k ≤ 10 → (begin s k ≤ length im) × (length im ≤ most_words)
  unfolding total
  inside k h = rw (sized_words s im z) (begins_later s k 10 h, (sized_fit s im z).words)

  -- a queue that obeys the rules of queues and, where it is typed, holds characters
  abbrev Right : Queue → Bool → Type 0
  Right q typed = Kept s im q × (So typed → So (all_below (most_character + 1) (held s im q)))

  -- a row is right where its queue is
  module _ (q : Queue) (has : Has s q) (p : ℕ) (e : p ≡ (place s (head s q)).0) where
    leads_are : row_queued im (place_at p) (header_capacity s q) ≡ queued s im q
    unfolding row_queued queued at place
    leads_are =
        let e1 : (place s (tail s q)).0 ≡ p + 1 = omega (arith, e) in
        let e2 : (place s (count s q)).0 ≡ p + 2 = omega (arith, e) in
        let e3 : (place s (capacity s q)).0 ≡ p + 3 = omega (arith, e) in
        rw (e1, e2, e3, ← e)

    word_is : (k : ℕ) → get_or im (p + k) 0 ≡ at s im (queue_word s q k)
    unfolding at place
    word_is k = let along : (place s (queue_word s q k)).0 ≡ p + k = omega (arith, e) in rw along

    head_is : get_or im p 0 ≡ at s im (head s q)
    unfolding at
    head_is = rw e

    slot_is : (k : ℕ) → slot_at im (place_at p) k ≡ at s im (slot s q k)
    slot_is k = let same : p + lead + k ≡ p + (lead + k) = omega arith in rw same (word_is (lead + k))

    below_is : Queued s im q → (h n m : ℕ) → So (row_words_below im (place_at p) (header_capacity s q) h n m) ↔ So (all_below m (words_from s im q h n))
    unfolding row_words_below
    below_is r h n m =
        let e = every_is n (λ i. ltb (slot_at im (place_at p) (steps h i (header_capacity s q))) m) in
        let w = slots_below s im q m h n in
        let here : (i : ℕ) → slot_at im (place_at p) (steps h i (header_capacity s q)) ≡ at s im (slot s q (steps h i (at s im (capacity s q)))) =
        λ i. slot_is (steps h i (header_capacity s q)) ∙ rw r.sized in (
          λ a. w.1 (λ i l. rw (← here i) (ltb-true _ m (e.0 a i l))),
          λ b. e.1 (λ i l. lt-ltb _ m (rw (here i) (w.0 b i l))),
        )

    row_is : (typed : Bool) → So (row_right im (place_at p) (header_capacity s q) typed) ↔ Right q typed
    unfolding row_right cleared held free
    row_is typed =
        let parts = all_three (row_queued im (place_at p) (header_capacity s q)) (row_cleared im (place_at p) (header_capacity s q)) (implies typed (row_typed im (place_at p) (header_capacity s q))) in
        let typing = implied typed (row_typed im (place_at p) (header_capacity s q)) in (
          λ a.
              let h = parts.0 a in
              let r = (queued_is s im q).0 (sym leads_are ∙ h.0) in
              let f = (below_is r _ _ _).0 h.1 in
              ((r, (cleared_is s im q).0 (rw (word_is 1, word_is 2, ← r.sized) at f)), λ t. rw (head_is, word_is 2) at ((below_is r _ _ _).0 (typing.0 h.2 t))),
          λ b.
              let r = b.0.0 in
              parts.1 (
                leads_are ∙ (queued_is s im q).1 r,
                (below_is r _ _ _).1 (rw (word_is 1, word_is 2, ← r.sized) ((cleared_is s im q).1 b.0.1)),
                typing.1 (λ t. (below_is r _ _ _).1 (rw (head_is, word_is 2) (b.1 t))),
              ),
        )

    pub words_below : queued s im q ≡ true → (h n m g : ℕ) → g ≡ header_capacity s q → (o : Bool) → o ≡ row_words_below im (place_at p) g h n m
        → o ≡ all_below m (words_from s im q h n)
    words_below ok h n m g eg o eo =
        let i = below_is ((queued_is s im q).0 ok) h n m in
        let same : o ≡ row_words_below im (place_at p) (header_capacity s q) h n m = eo ∙ rw eg in
        together o _ (λ t. i.0 (sym same ∙ t)) (λ a. same ∙ i.1 a)

    pub row_inside : p + lead + header_capacity s q ≤ length im
    unfolding place
    row_inside =
        let last = below s (queue_word s q (3 + header_capacity s q)) (word_valid s q (3 + header_capacity s q) has (omega arith)) in
        omega (arith, e, last, sized_words s im z)

    row_as : (given : ℕ) → given ≡ header_capacity s q → (typed : Bool) → So (row_right im (place_at p) given typed) ↔ Right q typed
    row_as given same typed = rw same (row_is typed)

  -- the buffers, where messages is the place where those of messages start
  module _ (messages : Place) (em : messages.0 ≡ start s Part.MessageBuffers) where
    -- row k of rows that lie as the buffers of a part do
    input_is : (p : ℕ) (given k : ℕ) → p ≡ start s Part.InputBuffers + k * (lead + s.ci) → given ≡ s.ci → k < s.n
        → So (row_fine im (place_at p) given messages) ↔ Right (Queue.Input (task k)) true
    unfolding place
    input_is p given k e same l =
        rw (lt-ltb p messages.0 (omega (arith, em, mul-le-mul_right (lead + s.ci) l))) (row_as (Queue.Input (task k)) l p (omega (arith, e)) given same true)

    output_is : (p : ℕ) (given k : ℕ) → p ≡ start s Part.OutputBuffers + k * (lead + s.co) → given ≡ s.co → k < s.n
        → So (row_fine im (place_at p) given messages) ↔ Right (Queue.Output (task k)) true
    unfolding place
    output_is p given k e same l =
        rw (lt-ltb p messages.0 (omega (arith, em, mul-le-mul_right (lead + s.co) l))) (row_as (Queue.Output (task k)) l p (omega (arith, e)) given same true)

    message_is : (p : ℕ) (given i j : ℕ) → p ≡ start s Part.MessageBuffers + (i * s.n + j) * (lead + s.cm) → given ≡ s.cm → i < s.n → j < s.n
        → So (row_fine im (place_at p) given messages) ↔ Right (Queue.Message (task i) (task j)) false
    unfolding place
    message_is p given i j e same li lj =
        rw (le-ltb p messages.0 (omega (arith, em))) (row_as (Queue.Message (task i) (task j)) (li, lj) p (omega (arith, e)) given same false)

    -- rows that are right where something holds of each
    rows_are : (p end : Place) (given rows : ℕ) (Q : ℕ → Type 0) → end.0 ≡ (row_at p given rows).0
        → ((j : ℕ) → j < rows → So (row_fine im (row_at p given j) given messages) ↔ Q j) → (r : Bool) → AllRight im p end given messages r
        → So r ↔ ((j : ℕ) → j < rows → Q j)
    unfolding AllRight
    rows_are p end given rows Q e is r a =
        let er = a rows e in
        (λ t j l. (is j l).0 ((every_is rows _).0 (sym er ∙ t) j l), λ f. er ∙ (every_is rows _).1 (λ j l. (is j l).1 (f j l)))

    -- those of input, of output and of messages, from a place up to another
    module _ (p end : Place) where
      inputs_are : p.0 ≡ start s Part.InputBuffers → end.0 ≡ start s Part.OutputBuffers → (r : Bool) → AllRight im p end s.ci messages r
          → So r ↔ ((k : ℕ) → k < s.n → Right (Queue.Input (task k)) true)
      inputs_are e ee = rows_are p end s.ci s.n (λ k. Right (Queue.Input (task k)) true) (omega (arith, e, ee)) (λ k l. input_is _ s.ci k (omega (arith, e)) refl l)

      outputs_are : p.0 ≡ start s Part.OutputBuffers → end.0 ≡ start s Part.MessageBuffers → (r : Bool) → AllRight im p end s.co messages r
          → So r ↔ ((k : ℕ) → k < s.n → Right (Queue.Output (task k)) true)
      outputs_are e ee = rows_are p end s.co s.n (λ k. Right (Queue.Output (task k)) true) (omega (arith, e, ee)) (λ k l. output_is _ s.co k (omega (arith, e)) refl l)

  -- message k, of those from task 0 on
  abbrev Sent : ℕ → Type 0
  Sent k = Right (Queue.Message (task (k / s.n)) (task (k % s.n))) false

  some : 0 < s.n
  some = (sized_fit s im z).tasks.0

  pair_is : (k : ℕ) → k < s.n * s.n → (k / s.n < s.n) × (k % s.n < s.n) × ((k / s.n) * s.n + k % s.n ≡ k)
  pair_is k l = ((div-lt_iff_lt-mul some).1 l, mod-lt k some, div-add-mod' k s.n)

  sent_all : ((k : ℕ) → k < s.n * s.n → Sent k) → (i j : ℕ) → i < s.n → j < s.n → Right (Queue.Message (task i) (task j)) false
  sent_all f i j li lj =
      let d : (i * s.n + j) / s.n ≡ i = row_same s.n ((i * s.n + j) / s.n) i ((i * s.n + j) % s.n) j (mod-lt (i * s.n + j) some) lj (div-add-mod' (i * s.n + j) s.n) in
      let m : (i * s.n + j) % s.n ≡ j = column_same s.n ((i * s.n + j) / s.n) i ((i * s.n + j) % s.n) j (mod-lt (i * s.n + j) some) lj (div-add-mod' (i * s.n + j) s.n) in
      rw (d, m) at (f (i * s.n + j) (row_below s.n li lj))

  -- the ready queue
  module _ (p : Place) (e : p.0 ≡ start s Part.ReadyQueue) where
    pub ready_fits : (s.n ≤ most_capacity) × (p.0 + lead + s.n ≤ length im)
    ready_fits = let f = (sized_fit s im z).tasks in (omega (arith, f), omega (arith, e, inside 3 (omega arith)))

    pub ready_decides : (r : Bool) → r ≡ row_right im p s.n false → r ≡ queue_holds s im Queue.Ready
    unfolding place
    ready_decides r er =
        let i = row_is Queue.Ready tt p.0 (omega (arith, e)) false in
        together r _ (λ t. (kept_is s im Queue.Ready).1 (i.0 (sym er ∙ t)).0) (λ h. er ∙ i.1 ((kept_is s im Queue.Ready).0 h, λ f. absurd (false≢true f)))

  -- all buffers
  abbrev all : Bool
  all = every_task s (buffers_hold s im) && every_task s (characters s im)

  abbrev Typed : ℕ → Type 0
  Typed k = Right (Queue.Input (task k)) true × Right (Queue.Output (task k)) true

  all_is : So all ↔ (((k : ℕ) → k < s.n → Typed k) × ((i j : ℕ) → i < s.n → j < s.n → Right (Queue.Message (task i) (task j)) false))
  unfolding characters
  all_is =
      simp (and-eq-true_iff, every_is, buffers_are) (
        λ h. (λ k l. let b = h.0 k l in let c = h.1 k l in ((b.0, λ _. c.0), (b.1, λ _. c.1)), λ i j li lj. ((h.0 i li).2 j lj, λ f. absurd (false≢true f))),
        λ h. (λ k l. let b = h.0 k l in (b.0.0, b.1.0, λ j lj. (h.1 k j l lj).0), λ k l. let b = h.0 k l in (b.0.1 refl, b.1.1 refl)),
      )

  -- what the rows of all buffers must be
  fits : (p end : Place) (given rows k : ℕ) → (0 < given) × (given ≤ most_capacity) → end.0 ≡ (row_at p given rows).0 → k ≤ 10 → end.0 ≡ begin s k
      → ((0 < given) × (given ≤ most_capacity)) × (RowsBetween p end given × ((end.0 ≤ length im) × (length im ≤ most_words)))
  fits p end given rows k g e hk ee = let i = inside k hk in (g, (record { rows = rows; ends = e }, (omega (arith, ee, i), i.1)))

  module _ (p q m end : Place) (ep : p.0 ≡ start s Part.InputBuffers) (eq : q.0 ≡ start s Part.OutputBuffers) (em : m.0 ≡ start s Part.MessageBuffers)
      (ee : end.0 ≡ start s Part.Ports) where
    pub inputs_fit : ((0 < s.ci) × (s.ci ≤ most_capacity)) × (RowsBetween p q s.ci × ((q.0 ≤ length im) × (length im ≤ most_words)))
    inputs_fit = fits p q s.ci s.n 5 (sized_fit s im z).inputs (omega (arith, ep, eq)) (omega arith) eq

    pub outputs_fit : ((0 < s.co) × (s.co ≤ most_capacity)) × (RowsBetween q m s.co × ((m.0 ≤ length im) × (length im ≤ most_words)))
    outputs_fit = fits q m s.co s.n 6 (sized_fit s im z).outputs (omega (arith, eq, em)) (omega arith) em

    pub messages_fit : ((0 < s.cm) × (s.cm ≤ most_capacity)) × (RowsBetween m end s.cm × ((end.0 ≤ length im) × (length im ≤ most_words)))
    messages_fit = fits m end s.cm (s.n * s.n) 7 (sized_fit s im z).messages (omega (arith, em, ee)) (omega arith) ee

    pub inputs_wrong : (r : Bool) → AllRight im p q s.ci m r → r ≡ false → false ≡ all
    inputs_wrong r a n = refuted _ (λ h. true≢false (sym ((inputs_are m em p q ep eq r a).1 (λ k l. ((all_is.0 h).0 k l).0)) ∙ n))

    pub outputs_wrong : (r : Bool) → AllRight im q m s.co m r → r ≡ false → false ≡ all
    outputs_wrong r a n = refuted _ (λ h. true≢false (sym ((outputs_are m em q m eq em r a).1 (λ k l. ((all_is.0 h).0 k l).1)) ∙ n))

    sent_is : (x given : ℕ) → given ≡ s.cm → (k : ℕ) → k < s.n * s.n → x ≡ start s Part.MessageBuffers + k * (lead + s.cm)
        → So (row_fine im (place_at x) given m) ↔ Sent k
    sent_is x given same k l e =
        let i = pair_is k l in
        message_is m em x given (k / s.n) (k % s.n) (rw i.2 e) same i.0 i.1

    pub messages_decide : (a b r : Bool) → AllRight im p q s.ci m a → a ≡ true → AllRight im q m s.co m b → b ≡ true → AllRight im m end s.cm m r → r ≡ all
    messages_decide a b r ra na rb nb rr =
        let is = rows_are m em m end s.cm (s.n * s.n) Sent (omega (arith, em, ee)) (λ k l. sent_is _ s.cm refl k l (omega (arith, em))) r rr in
        together r _
        (λ t. all_is.1 (λ k l. ((inputs_are m em p q ep eq a ra).0 na k l, (outputs_are m em q m eq em b rb).0 nb k l), sent_all (is.0 t)))
        (λ h. is.1 (λ k l. let i = pair_is k l in (all_is.0 h).1 _ _ i.0 i.1))

    -- all of them at once, where they have one capacity
    module _ (ci : s.ci ≡ s.cm) (co : s.co ≡ s.cm) where
      times_ci : (k : ℕ) → k * s.ci ≡ k * s.cm
      times_ci k = rw ci

      times_co : (k : ℕ) → k * s.co ≡ k * s.cm
      times_co k = rw co

      abbrev rows : ℕ
      rows = s.n + s.n + s.n * s.n

      ends : end.0 ≡ (row_at p s.cm rows).0
      ends = omega (arith, ep, ee, times_ci s.n, times_co s.n)

      pub joined_fit : ((0 < s.cm) × (s.cm ≤ most_capacity)) × (RowsBetween p end s.cm × ((end.0 ≤ length im) × (length im ≤ most_words)))
      joined_fit = fits p end s.cm rows 7 (sized_fit s im z).messages ends (omega arith) ee

      first_rows : (k : ℕ) → k < s.n → So (row_fine im (row_at p s.cm k) s.cm m) ↔ Right (Queue.Input (task k)) true
      first_rows k l = input_is m em _ s.cm k (omega (arith, ep, times_ci k)) (sym ci) l

      second_rows : (k : ℕ) → k < s.n → So (row_fine im (row_at p s.cm (s.n + k)) s.cm m) ↔ Right (Queue.Output (task k)) true
      second_rows k l = output_is m em _ s.cm k (omega (arith, ep, times_ci s.n, times_co k)) (sym co) l

      third_rows : (k : ℕ) → k < s.n * s.n → So (row_fine im (row_at p s.cm (s.n + s.n + k)) s.cm m) ↔ Sent k
      third_rows k l = sent_is _ s.cm refl k l (omega (arith, ep, times_ci s.n, times_co s.n))

      pub joined_decide : (r : Bool) → AllRight im p end s.cm m r → r ≡ all
      unfolding AllRight
      joined_decide r a =
          let er = a rows ends in
          together r _
          (λ t.
          let f = (every_is rows _).0 (sym er ∙ t) in
          all_is.1 (λ k l. ((first_rows k l).0 (f k (omega arith)), (second_rows k l).0 (f (s.n + k) (omega arith))), sent_all (λ k l. (third_rows k l).0 (f (s.n + s.n + k) (omega arith)))))
          (λ h. er ∙ (every_is rows _).1 (λ j l.
          dite (dec_lt j s.n) (λ b. (first_rows j b).1 ((all_is.0 h).0 j b).0)
          (λ o. dite (dec_lt j (s.n + s.n))
          (λ b.
          let ij : j ≡ s.n + (j - s.n) = omega (arith, o) in
          let lj : j - s.n < s.n = omega (arith, o) in
          rw ij ((second_rows (j - s.n) lj).1 ((all_is.0 h).0 (j - s.n) lj).1))
          (λ o2.
          let ij : j ≡ s.n + s.n + (j - (s.n + s.n)) = omega (arith, o2) in
          let lj : j - (s.n + s.n) < s.n * s.n = omega (arith, o2) in
          let i = pair_is (j - (s.n + s.n)) lj in
          rw ij ((third_rows (j - (s.n + s.n)) lj).1 ((all_is.0 h).1 _ _ i.0 i.1))))))

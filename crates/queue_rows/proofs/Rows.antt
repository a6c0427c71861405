-- What the tests of one row come to: all its slots, its free slots, its words. Assumes nothing.
use mathlib.Core.Path.{◌≡◌, refl, sym, ap, ◌∙◌}
use mathlib.Core.List.{List}
use mathlib.Core.Bool.{Bool, true, false, So, and-eq-true_iff, true≢false, false≢true}
use mathlib.Core.Logic.{◌≢◌, ◌↔◌, ◌⊎◌, inl, inr, ⊎_elim, dite}
use Prim.Native.Nat.{ℕ, ◌+◌, ◌-◌, ◌*◌, ◌%◌, ◌<◌, ◌≤◌}
use native.Mathlib.Numerals.{add-one}
use native.Mathlib.Decide.{dec_lt}
use native.Mathlib.Omega.{arith}
use borrow.Author.Tests.{eqb-true, eq-eqb, lt-ltb, le-ltb}
use lib.Bits.{bit_and, bit_or}
use lib.Dec.{eqb, ltb}
use lib.ListN.{get_or}
use Rattle.paper.specs.Image.{most_capacity, most_character, lead, word}
use Rattle.paper.specs.Tests.{every, implies}
use Rattle.paper.specs.declared.Place.{Place}
use Rattle.paper.specs.Queues.{step}
use Rattle.laws.specs.Every.{every_none, every_more, every_fails, every_done}
use Rattle.laws.specs.Steps.{step_mod, steps, steps_mod, steps_far, steps_on, steps_below, Outside, outside_steps}
use Rattle.laws.specs.Checked.{equal, at_most, implied, all_three, every_is}
use Rattle.four_words.specs.FourWords.{four_at, Gathers, Clear, Sieves, Marks}
use Rattle.queue_rows.specs.BufferRows.{leads, row_queued, slot_at, row_words_below, row_cleared, row_typed, SlotsTyped, row_right, Unused}
use Rattle.connectives.specs.Failing.{refuted, together}
use Rattle.four_words.proofs.Lanes.{gathers_low, sieves_both}
use Rattle.queue_rows.proofs.Leads.{unused_right}

-- the rules of four leading words
record Sounds (given h t n c : ℕ) : Type 0 where
  sized : c ≡ given
  headed : h < c
  tailed : t < c
  counted : n ≤ c
  round : (h + n) % c ≡ t

leads_is : (given h t n c : ℕ) → So (leads given h t n c) ↔ Sounds given h t n c
leads_is given h t n c = simp (and-eq-true_iff, equal, at_most) (λ a. search, λ b. search)

-- a row that is a queue
module _ (im : List ℕ) (p : Place) (given : ℕ) (ok : row_queued im p given ≡ true) where
  sounds : Sounds given (word im p) (get_or im (p.0 + 1) 0) (get_or im (p.0 + 2) 0) (get_or im (p.0 + 3) 0)
  unfolding row_queued
  sounds = (leads_is given _ _ _ _).0 ok

  -- head and tail lie in it
  pub ends_in : (word im p < given) × (get_or im (p.0 + 1) 0 < given)
  ends_in = (omega (arith, sounds.headed, sounds.sized), omega (arith, sounds.tailed, sounds.sized))

  head_in : word im p < given
  head_in = ends_in.0

  pub count_in : get_or im (p.0 + 2) 0 ≤ given
  count_in = omega (arith, sounds.counted, sounds.sized)

  to_tail : steps (word im p) (get_or im (p.0 + 2) 0) given ≡ get_or im (p.0 + 1) 0
  to_tail = steps_mod (word im p) (get_or im (p.0 + 2) 0) given head_in ∙ rw (← sounds.sized) sounds.round

  words_are : (h n m : ℕ) → So (row_words_below im p given h n m) ↔ ((i : ℕ) → i < n → slot_at im p (steps h i given) < m)
  unfolding row_words_below
  words_are h n m = simp (every_is, at_most) (λ f. f, λ f. f)

  -- its free slots are those outside of the words held
  cleared_are : So (row_cleared im p given) ↔ ((k : ℕ) → k < given → Outside (word im p) (get_or im (p.0 + 2) 0) given k → slot_at im p k ≡ 0)
  cleared_are =
      let w = words_are (get_or im (p.0 + 1) 0) (given - get_or im (p.0 + 2) 0) 1 in
      let o = outside_steps (λ k. slot_at im p k ≡ 0) (word im p) (get_or im (p.0 + 2) 0) given (get_or im (p.0 + 1) 0) head_in count_in to_tail in
      (λ a. o.0 (λ i l. omega (arith, w.0 a i l)), λ f. w.1 (λ i l. omega (arith, o.1 f i l)))

  -- a slot is outside of the words held, or one of them
  held_or_free : (k : ℕ) → k < given → Outside (word im p) (get_or im (p.0 + 2) 0) given k ⊎ ((j : ℕ) × (j < get_or im (p.0 + 2) 0) × (steps (word im p) j given ≡ k))
  held_or_free k l =
      let h = word im p in
      let n = get_or im (p.0 + 2) 0 in
      let at : (j : ℕ) → j < n → (h + j ≡ k) ⊎ (h + j ≡ k + given) → steps h j given ≡ k = λ j lj e.
      ⊎_elim (λ a. ⊎_elim (λ b. omega arith) (λ b. omega arith) e) (λ a. ⊎_elim (λ b. omega arith) (λ b. omega arith) e) (steps_far h j given head_in (omega (arith, count_in))) in
      dite (dec_lt k h)
      (λ low. dite (dec_lt (k + given) (h + n)) (λ i. inr (k + given - h, omega (arith, head_in), at (k + given - h) (omega (arith, head_in)) (inr (omega (arith, head_in)))))
      (λ o. inl (λ _. omega (arith, o), λ g. absurd (omega arith))))
      (λ high. dite (dec_lt k (h + n)) (λ i. inr (k - h, omega (arith, high), at (k - h) (omega (arith, high)) (inl (omega (arith, high)))))
      (λ o. inl (λ g. absurd (omega (arith, high)), λ _. omega (arith, o))))

  -- where free slots are 0 and the words held are characters, all slots have characters, and the other way round
  all_typed : So (row_cleared im p given) → So (row_typed im p given) → (k : ℕ) → k < given → slot_at im p k < most_character + 1
  all_typed c t k l =
      ⊎_elim (λ o. omega (arith, cleared_are.0 c k l o))
      (λ j. rw j.2 at ((words_are (word im p) (get_or im (p.0 + 2) 0) (most_character + 1)).0 t j.0 j.1))
      (held_or_free k l)

  held_typed : ((k : ℕ) → k < given → slot_at im p k < most_character + 1) → So (row_typed im p given)
  held_typed f = (words_are (word im p) (get_or im (p.0 + 2) 0) (most_character + 1)).1 (λ i l. f (steps (word im p) i given) (steps_below (word im p) i given head_in))

  -- as its tests decide
  module _ (typed : Bool) where
    parts : So (row_right im p given typed) ↔ (So (row_queued im p given) × So (row_cleared im p given) × So (implies typed (row_typed im p given)))
    unfolding row_right
    parts = all_three _ _ _

    pub untyped_wrong : (r : Bool) → r ≡ implies typed (row_typed im p given) → r ≡ false → false ≡ row_right im p given typed
    untyped_wrong r e n = refuted _ (λ a. true≢false (sym (parts.0 a).2 ∙ sym e ∙ n))

    pub free_decide : (r o : Bool) → r ≡ implies typed (row_typed im p given) → r ≡ true → o ≡ row_cleared im p given → o ≡ row_right im p given typed
    free_decide r o e n eo = together o _ (λ t. parts.1 (ok, sym eo ∙ t, sym e ∙ n)) (λ a. eo ∙ (parts.0 a).1)

    module _ (r : Bool) (e : SlotsTyped im p given typed r) where
      pub slots_wrong : r ≡ false → false ≡ row_right im p given typed
      unfolding SlotsTyped
      slots_wrong n =
          refuted _ (λ a.
          let h = parts.0 a in
          true≢false (sym (e.1 (λ t. all_typed h.1 ((implied typed _).0 h.2 t))) ∙ n))

      typing : r ≡ true → So (implies typed (row_typed im p given))
      unfolding SlotsTyped
      typing n = (implied typed _).1 (λ t. held_typed (e.0 n t))

      pub full_right : r ≡ true → (w : ℕ) → w ≡ get_or im (p.0 + 2) 0 → w ≡ given → true ≡ row_right im p given typed
      full_right n w ew full =
          sym (parts.1 (ok, (words_are _ _ 1).1 (λ i l. absurd (omega arith)), typing n))

      pub slots_decide : r ≡ true → (o : Bool) → o ≡ row_cleared im p given → o ≡ row_right im p given typed
      slots_decide n o eo = together o _ (λ t. parts.1 (ok, sym eo ∙ t, typing n)) (λ a. eo ∙ (parts.0 a).1)

  -- the marks of a slot differ where it lies outside of the words held
  module _ (marks : List ℕ) (m : Marks marks given) (few : given ≤ most_capacity) (a b h n : ℕ) (eh : h ≡ word im p) (en : n ≡ get_or im (p.0 + 2) 0)
      (eb : b ≡ most_capacity - h) (ea : a ≡ b + given - n) where
    marks_differ : (k : ℕ) → k < given → (get_or marks (a + k) 0 ≢ get_or marks (b + k) 0) ↔ Outside (word im p) (get_or im (p.0 + 2) 0) given k
    marks_differ k l =
        dite (dec_lt k h)
        (λ low.
        let mb = m.before (b + k) (omega (arith, head_in)) in
        dite (dec_lt (k + given) (h + n))
        (λ i. let ma = m.before (a + k) (omega (arith, head_in, count_in)) in (λ ne. absurd (ne (ma ∙ sym mb)), λ o. absurd (omega (arith, o.0 (omega arith)))))
        (λ o. let ma = m.slots (a + k) (omega (arith, o, head_in, count_in)) (omega (arith, o, head_in, count_in)) in (λ _. (λ _. omega (arith, o), λ g. absurd (omega arith)), λ _ e. absurd (omega (arith, ma, mb, e)))))
        (λ high.
        let mb = m.slots (b + k) (omega (arith, high, head_in)) (omega (arith, high, head_in)) in
        dite (dec_lt k (h + n))
        (λ i. let ma = m.slots (a + k) (omega (arith, high, head_in, count_in)) (omega (arith, high, i, head_in, count_in)) in (λ ne. absurd (ne (ma ∙ sym mb)), λ o. absurd (omega (arith, high, o.1 (omega (arith, high))))))
        (λ o. let ma = m.after (a + k) (omega (arith, high, o, head_in, count_in)) (omega (arith, high, o, head_in, count_in)) in (λ _. (λ g. absurd (omega (arith, high)), λ _. omega (arith, o)), λ _ e. absurd (omega (arith, ma, mb, e)))))

    pub sieved_cleared : 16 ≤ given → (r r' : ℕ) → Sieves im (p.0 + lead) marks a b 16 r → Sieves im (p.0 + lead + (given - 16)) marks (a + (given - 16)) (b + (given - 16)) 16 r'
        → eqb (bit_or r r') 0 ≡ row_cleared im p given
    unfolding Sieves
    sieved_cleared many r r' g h' =
        let both = sieves_both im marks (p.0 + lead) a b 16 r (given - 16) 16 r' given g h' (omega arith) (omega arith) many in
        together _ _ (λ t. cleared_are.1 (λ k l o. both.0 (eqb-true _ 0 t) k l ((marks_differ k l).1 o)))
        (λ c. eq-eqb _ 0 (both.1 (λ k l ne. cleared_are.0 c k l ((marks_differ k l).0 ne))))

-- a row that is no queue
pub unqueued_wrong : (im : List ℕ) (p : Place) (given : ℕ) (typed r : Bool) → r ≡ row_queued im p given → r ≡ false → false ≡ row_right im p given typed
unfolding row_right
unqueued_wrong im p given typed r e n = refuted _ (λ a. true≢false (sym ((all_three _ _ _).0 a).0 ∙ sym e ∙ n))

-- a row never used
module _ (im : List ℕ) (p : Place) (given : ℕ) (some : 0 < given) where
  pub unused_row : ((k : ℕ) → get_or im k 0 < 65536) → (f : ℕ) (r : Bool) → f ≡ four_at im p.0 → f ≡ 65536 * (65536 * (65536 * given))
      → (r ≡ true → Clear im (p.0 + lead) (p.0 + lead + given)) → r ≡ true → Unused im p given
  unfolding row_queued
  unused_row small f r ef e clear t =
      record {
        queued = unused_right given _ _ _ _ _ _ _ _ some (small p.0) (small (p.0 + 1)) (small (p.0 + 2)) refl refl refl refl (eq-eqb _ _ (sym ef ∙ e));
        clear = clear t;
      }

  pub unused_is_right : Unused im p given → (typed : Bool) → row_right im p given typed ≡ true
  unfolding Clear
  unused_is_right u typed =
      let ok = u.queued in
      let zero : (k : ℕ) → k < given → slot_at im p k ≡ 0 = λ k l. u.clear (p.0 + lead + k) (omega arith) (omega arith) in
      (parts im p given ok typed).1 (
        ok,
        (cleared_are im p given ok).1 (λ k l _. zero k l),
        (implied typed _).1 (λ _. held_typed im p given ok (λ k l. omega (arith, zero k l))),
      )

-- a row that is not typed, and one that is
pub untyped_implies : (typed b : Bool) → typed ≡ false → true ≡ implies typed b
untyped_implies true b e = absurd (true≢false e)
untyped_implies false b e = refl

pub typed_implies : (im : List ℕ) (p : Place) (given : ℕ) (typed o : Bool) (h n : ℕ) → typed ≡ true → h ≡ word im p → n ≡ get_or im (p.0 + 2) 0
    → o ≡ row_words_below im p given h n (most_character + 1) → o ≡ implies typed (row_typed im p given)
typed_implies im p given true o h n e eh en eo = eo ∙ rw (eh, en)
typed_implies im p given false o h n e eh en eo = absurd (false≢true e)

pub untyped_slots : (im : List ℕ) (p : Place) (given : ℕ) (typed : Bool) → typed ≡ false → SlotsTyped im p given typed true
unfolding SlotsTyped
untyped_slots im p given typed n = (λ _ t. absurd (true≢false (sym t ∙ n)), λ _. refl)

pub gathered_typed : (im : List ℕ) (p : Place) (given : ℕ) (typed : Bool) → ((k : ℕ) → get_or im k 0 < 65536) → (r : ℕ) → Gathers im (p.0 + lead) given r
    → typed ≡ true → SlotsTyped im p given typed (eqb (bit_and r 18374966859414961920) 0)
unfolding SlotsTyped
gathered_typed im p given typed small r g n =
    let low = gathers_low im small (p.0 + lead) given r g in
    (λ e _ k l. omega (arith, low.0 (eqb-true _ 0 e) k l), λ f. eq-eqb _ 0 (low.1 (λ k l. omega (arith, f n k l))))

-- words below m, one after another: so many are done, and the next is in a slot
pub record Below (im : List ℕ) (first given from m slot done : ℕ) : Type 0 where
  pub here : slot ≡ steps from done given
  pub so_far : every done (λ i. ltb (get_or im (first + steps from i given) 0) m) ≡ true

module _ (im : List ℕ) (first given from m : ℕ) (start : from < given) where
  pub below_none : Below im first given from m from 0
  below_none = record { here = refl; so_far = every_none _ }

  module _ (slot done : ℕ) (b : Below im first given from m slot done) where
    pub slot_in : slot < given
    slot_in = rw b.here (steps_below from done given start)

    pub below_wrong : (count w v : ℕ) → done < count → w ≡ v → v ≡ get_or im (first + slot) 0 → m ≤ w → false ≡ every count (λ i. ltb (get_or im (first + steps from i given) 0) m)
    below_wrong count w v some ew ev high =
        sym (every_fails count done _ some (le-ltb _ m (rw (← b.here) (omega (arith, ew, ev)))))

    pub below_more : (w v next : ℕ) → w ≡ v → v ≡ get_or im (first + slot) 0 → w < m → next ≡ (slot + 1) % given
        → Below im first given from m next (done + 1)
    below_more w v next ew ev low en =
        record {
          here = en ∙ sym (step_mod slot given slot_in) ∙ ap (λ (x : ℕ). step x given) b.here ∙ sym (steps_on from done given) ∙ ap (λ (x : ℕ). steps from x given) (sym (add-one done));
          so_far = every_more done _ b.so_far (lt-ltb _ m (rw (← b.here) (omega (arith, ew, ev))));
        }

    pub below_done : (count : ℕ) → count ≤ done → done ≤ count → true ≡ every count (λ i. ltb (get_or im (first + steps from i given) 0) m)
    below_done count over under = sym (every_done count done _ b.so_far over under)

-- Against the paper: a word is spelt as an order exactly where the paper has an order for it. Assumes nothing.
use Rattle.std.specs.Prelude.{◌≡◌, refl, Bool, true, false, not, cond, ◌&&◌, ◌||◌, ◌⊎◌, ℕ, ◌+◌, ◌≤◌, eqb, length, Err, None, Ok, Option, Result, Some}
use Rattle.std.proofs.Common.{ap, sym, ◌∙◌, true≢false, inl, inr, ⊎_elim, arith, eqb-true}
use Rattle.std.proofs.Math.Bool.{and-eq-true_iff}
use Rattle.std.proofs.lemmas.Bool.{not-true}
use Rattle.std.proofs.Math.ListN.{get_or-eq_default}
use Rattle.paper.specs.Machines.{Machine}
use Rattle.paper.specs.Orders.{op_of, a_of, b_of, next_order, stack, mod_word, orders, order_of, shape_of_order, holds, serves, outside, bad_order, bad_service, zero_divisor, found, reading, inside, effect, effect_of, checked}
use Rattle.paper.specs.declared.Op.{Op}
use Rattle.grammar.specs.Tokens.{bytes}
use Rattle.grammar.specs.Kept.{kept_words}
use Rattle.grammar.specs.Lines.{words_by}
use Rattle.grammar.specs.Printing.{Named, named_in, named_as}
use Rattle.grammar.specs.declared.Operands.{Operands}
use Rattle.print_laws.specs.Sweep.{end_of_orders}
use Rattle.print_laws.specs.Orders.{shape_at, decides, Runs, AsThePaper}
use Rattle.print_laws.proofs.Sweep.{swept}
use Rattle.paper.specs.declared.Change.{Change}
use Rattle.paper.specs.declared.Field.{Field}

-- whether the tests of a word's fields and service pass, and the count of words
abbrev passes : ℕ → Option (ℕ × Field × Field) → Bool
passes w None = false
passes w (Some (n, fa, fb)) = (holds fa (a_of w) && holds fb (b_of w)) && serves fa (a_of w)

abbrev count_of : Option (ℕ × Field × Field) → ℕ
count_of None = 0
count_of (Some (n, fa, fb)) = n

-- they do exactly for the words that are spelt as orders
abbrev agrees : ℕ → Named → Bool
agrees w Named.none = not (passes w (shape_at w))
agrees w (Named.order name o) = passes w (shape_at w) && eqb (count_of (shape_at w)) (words_by o)

unknown_past : (w : ℕ) → end_of_orders ≤ w → order_of (op_of w) ≡ Op.Unknown
unknown_past w l = let past : length orders ≤ op_of w = omega arith in get_or-eq_default orders Op.Unknown past

agreed : (w : ℕ) → agrees w (named_as w) ≡ true
unfolding bytes kept_words named_in named_as
agreed w = swept agrees refl (λ v l. rw (unknown_past v l)) w

-- what is decided, by those tests
decided_bad : (m : Machine) (w : ℕ) (sh : Option (ℕ × Field × Field)) → passes w sh ≡ false → (checked sh m w ≡ Err bad_order) ⊎ (checked sh m w ≡ Err bad_service)
unfolding checked
decided_bad m w None e = inl refl
decided_bad m w (Some (n, fa, fb)) e = go (holds fa (a_of w) && holds fb (b_of w)) (serves fa (a_of w)) e
  where
    go : (t u : Bool) → (t && u) ≡ false → (cond t (cond u (effect_of m (op_of w) n (a_of w) (b_of w)) (Err bad_service)) (Err bad_order) ≡ Err bad_order)
        ⊎ (cond t (cond u (effect_of m (op_of w) n (a_of w) (b_of w)) (Err bad_service)) (Err bad_order) ≡ Err bad_service)
    go true true e = absurd (true≢false e)
    go true false e = inr refl
    go false u e = inl refl

decided_runs : (m : Machine) (w : ℕ) (o : Operands) (sh : Option (ℕ × Field × Field)) → shape_at w ≡ sh → passes w sh ≡ true → count_of sh ≡ words_by o → Runs m w o
unfolding checked
decided_runs m w o None is e c = absurd (true≢false (sym e))
decided_runs m w o (Some (n, fa, fb)) is e c =
    let served = (and-eq-true_iff (holds fa (a_of w) && holds fb (b_of w)) (serves fa (a_of w))).0 e in
    let held = (and-eq-true_iff (holds fa (a_of w)) (holds fb (b_of w))).0 served.0 in
    record {
      a_field = fa;
      b_field = fb;
      shape = is ∙ ap (λ k. Some (k, fa, fb)) c;
      a_holds = held.0;
      b_holds = held.1;
      is_served = served.1;
      does = ap (λ sh. checked sh m w) is ∙ rw (served.0, served.1) (ap (λ k. effect_of m (op_of w) k (a_of w) (b_of w)) c);
    }

-- an order that runs faults with 1 or 4 alone
abbrev proper : Result (ℕ × Change) ℕ → Bool
proper (Ok (next, c)) = true
proper (Err e) = eqb e outside || eqb e zero_divisor

proper_reading : (x : Option ℕ) (f : ℕ → Result (ℕ × Change) ℕ) → ((w : ℕ) → proper (f w) ≡ true) → proper (reading x f) ≡ true
proper_reading (Some w) f h = h w
proper_reading None f h = refl

proper_storing : (t : Bool) (e : Result (ℕ × Change) ℕ) → proper e ≡ true → proper (cond t e (Err outside)) ≡ true
proper_storing true e h = h
proper_storing false e h = refl

proper_dividing : (t : Bool) (e : Result (ℕ × Change) ℕ) → proper e ≡ true → proper (cond t (Err zero_divisor) e) ≡ true
proper_dividing true e h = refl
proper_dividing false e h = h

module _ (w : ℕ) (m : Machine) (next a x y : ℕ) where
  proper_effect : (o : Op) → passes w (shape_of_order o) ≡ true → proper (effect o m next a x y) ≡ true
  proper_effect Op.Unknown e = absurd (true≢false (sym e))
  proper_effect Op.Load e = proper_reading (found m (next_order m + 1)) _ (λ n. refl)
  proper_effect Op.Copy e = refl
  proper_effect Op.Fetch e = proper_reading (found m y) _ (λ n. refl)
  proper_effect Op.Store e = proper_storing (inside m y) _ refl
  proper_effect Op.Add e = refl
  proper_effect Op.Subtract e = refl
  proper_effect Op.Multiply e = refl
  proper_effect Op.Quotient e = proper_dividing (eqb y 0) _ refl
  proper_effect Op.Remainder e = proper_dividing (eqb y 0) _ refl
  proper_effect Op.And e = refl
  proper_effect Op.Or e = refl
  proper_effect Op.ExclusiveOr e = refl
  proper_effect Op.Compare e = refl
  proper_effect Op.Jump e = proper_reading (found m (next_order m + 1)) _ (λ n. refl)
  proper_effect Op.JumpIf e = proper_reading (found m (next_order m + 1)) _ (λ n. refl)
  proper_effect Op.Call e = proper_reading (found m (next_order m + 1)) _ (λ n. proper_storing (inside m (mod_word (stack m + 65535))) _ refl)
  proper_effect Op.Return e = proper_reading (found m (stack m)) _ (λ n. refl)
  proper_effect Op.Service e = refl

module _ (m : Machine) (w : ℕ) where
  proper_run : (o : Operands) → passes w (shape_at w) ≡ true → Runs m w o → proper (decides m w) ≡ true
  unfolding effect_of
  proper_run o e r = rw r.does (proper_effect w m _ _ _ _ (order_of (op_of w)) e)

  by_name : (n : Named) → agrees w n ≡ true → ((n ≡ Named.none) → (decides m w ≡ Err bad_order) ⊎ (decides m w ≡ Err bad_service))
      × (proper (decides m w) ≡ false → n ≡ Named.none)
  by_name Named.none e = (λ is. decided_bad m w (shape_at w) (not-true (passes w (shape_at w)) e), λ bad. refl)
  by_name (Named.order name o) e = (
    λ is. absurd (let z : ◌≡◌ {A = ℕ} 0 1 = cc in omega arith),
    λ bad. let both = (and-eq-true_iff (passes w (shape_at w)) (eqb (count_of (shape_at w)) (words_by o))).0 e in
        let r = decided_runs m w o (shape_at w) refl both.0 (eqb-true _ _ both.1) in
        absurd (true≢false (sym (proper_run o both.0 r) ∙ bad)),
  )

pub as_the_paper : AsThePaper
as_the_paper =
    record {
      numbers = λ m w. (
        (by_name m w (named_as w) (agreed w)).0,
        λ bad. (by_name m w (named_as w) (agreed w)).1 (⊎_elim (λ e. rw e) (λ e. rw e) bad),
      );
      orders_run = λ m w name o is.
          let both = (and-eq-true_iff (passes w (shape_at w)) (eqb (count_of (shape_at w)) (words_by o))).0 (rw is at (agreed w)) in
          decided_runs m w o (shape_at w) refl both.0 (eqb-true _ _ both.1);
    }

-- The fault that is noted over lines is the first of those with the lowest number. Assumes nothing.
use Rattle.std.specs.Prelude.{◌≡◌, refl, Bool, true, false, List, [], ◌∷◌, ◌++◌, ◌⊎◌, ℕ, suc, ◌<◌, ◌≤◌, ltb, None, Option, Some}
use Rattle.std.proofs.Common.{ap, ◌∙◌, inl, inr, arith, ltb-true, ltb-false}
use Rattle.std.proofs.lemmas.Option.{some_pair_parts}
use Rattle.grammar.specs.Texts.{number, noted}
use Rattle.grammar.specs.declared.Refusal.{Refusal}
use Rattle.grammar.specs.declared.Line.{Line}
use Rattle.text_laws.specs.Lined.{Judgement, judgement, noted_all, NoneBelow, Each, First}
use Rattle.text_laws.specs.First.{noted_lower, noted_other, stays_noted, each_both, each_so}

-- a line that is the first with its number, and lines before that
starts : (r : Refusal) (l : Line) (js : List Judgement) → Each (NoneBelow (number r)) js → First r l (judgement (Some r) l ∷ js)
starts r l js h = record { before = []; after = js; stands = refl; none_before = tt; none_after = h }

goes_later : (r : Refusal) (l : Line) (j : Judgement) (js : List Judgement) → NoneBelow (suc (number r)) j.flaw → First r l js → First r l (j ∷ js)
goes_later r l j js h x =
    record {
      before = j ∷ x.before;
      after = x.after;
      stands = ap (λ (ks : List Judgement). j ∷ ks) x.stands;
      none_before = (h, x.none_before);
      none_after = x.none_after;
    }

-- a fault that is noted over more lines stays, or a later line has a lower number
pub record Stays (q r : Refusal) (k l : Line) (js : List Judgement) : Type 0 where
  pub refusal : q ≡ r
  pub line : k ≡ l
  pub none_lower : Each (NoneBelow (number r)) js

abbrev Outcome : Refusal → Refusal → Line → Line → List Judgement → Type 0
Outcome q r k l js = Stays q r k l js ⊎ (First r l js × (number r < number q))

module _ (r : Refusal) (l : Line) where
  -- after a line where nothing is wrong, after one with a lower number, and after one with no lower number
  past_nothing : (q : Refusal) (k m : Line) (js : List Judgement) → Outcome q r k l js → Outcome q r k l (judgement None m ∷ js)
  past_nothing q k m js (inl x) = inl (record { refusal = x.refusal; line = x.line; none_lower = (tt, x.none_lower) })
  past_nothing q k m js (inr x) = inr (goes_later r l (judgement None m) js tt x.0, x.1)

  begins_or_later : (p : Refusal) (m : Line) (js : List Judgement) → Outcome p r m l js → First r l (judgement (Some p) m ∷ js) × (number r ≤ number p)
  begins_or_later p m js (inl x) =
      rw (x.refusal, x.line) (starts r l js x.none_lower, omega arith)
  begins_or_later p m js (inr x) = (goes_later r l (judgement (Some p) m) js x.1 x.0, omega arith)

  past_lower : (q p : Refusal) (k m : Line) (js : List Judgement) → number p < number q → Outcome p r m l js → Outcome q r k l (judgement (Some p) m ∷ js)
  past_lower q p k m js h x = let y = begins_or_later p m js x in inr (y.0, omega arith)

  past_other : (q p : Refusal) (k m : Line) (js : List Judgement) → number q ≤ number p → Outcome q r k l js → Outcome q r k l (judgement (Some p) m ∷ js)
  past_other q p k m js h (inl x) =
      let e : number q ≡ number r = ap number x.refusal in
      inl (record { refusal = x.refusal; line = x.line; none_lower = (omega arith, x.none_lower) })
  past_other q p k m js h (inr x) = inr (goes_later r l (judgement (Some p) m) js (omega arith) x.0, x.1)

  stays_or_falls : (js : List Judgement) (q : Refusal) (k : Line) → noted_all (Some (q, k)) js ≡ Some (r, l) → Outcome q r k l js
  stays_or_falls [] q k e = let p = some_pair_parts q r k l e in inl (record { refusal = p.0; line = p.1; none_lower = tt })
  stays_or_falls (j ∷ js) q k e = go j.flaw j.line (stays_or_falls js) e
    where
      go : (w : Option Refusal) (m : Line) → ((p : Refusal) (n : Line) → noted_all (Some (p, n)) js ≡ Some (r, l) → Outcome p r n l js)
          → noted_all (noted (Some (q, k)) w m) js ≡ Some (r, l) → Outcome q r k l (judgement w m ∷ js)
      go None m later e = past_nothing q k m js (later q k e)
      go (Some p) m later e = test (ltb (number p) (number q)) refl
        where
          test : (t : Bool) → ltb (number p) (number q) ≡ t → Outcome q r k l (judgement (Some p) m ∷ js)
          test true h = past_lower q p k m js (ltb-true (number p) (number q) h) (later p m (rw (noted_lower q p k m (ltb-true (number p) (number q) h)) at e))
          test false h = past_other q p k m js (ltb-false (number p) (number q) h) (later q k (rw (noted_other q p k m (ltb-false (number p) (number q) h)) at e))

  -- what is noted is the first
  pub noted_first : (js : List Judgement) → noted_all None js ≡ Some (r, l) → First r l js
  noted_first [] e = absurd (let z : ◌≡◌ {A = ℕ} 0 1 = cc in omega arith)
  noted_first (j ∷ js) e = go j.flaw j.line (noted_first js) e
    where
      go : (w : Option Refusal) (m : Line) → (noted_all None js ≡ Some (r, l) → First r l js) → noted_all (noted None w m) js ≡ Some (r, l) → First r l (judgement w m ∷ js)
      go None m later e = goes_later r l (judgement None m) js tt (later e)
      go (Some p) m later e = (begins_or_later p m js (stays_or_falls js p m e)).0

  -- the first is what is noted: it is noted after lines with higher numbers, and stays after lines with no lower one
  abbrev Higher : Option (Refusal × Line) → Type 0
  Higher None = Unit {0}
  Higher (Some (q, k)) = number r < number q

  noted_now : (f : Option (Refusal × Line)) → Higher f → noted f (Some r) l ≡ Some (r, l)
  noted_now None h = refl
  noted_now (Some (q, k)) h = noted_lower q r k l h

  still_higher : (f : Option (Refusal × Line)) (w : Option Refusal) (m : Line) → Higher f → NoneBelow (suc (number r)) w → Higher (noted f w m)
  still_higher f None m h x = h
  still_higher None (Some p) m h x = x
  still_higher (Some (q, k)) (Some p) m h x = either (ltb (number p) (number q))
    where
      either : (t : Bool) → Higher (elim t as (λ _. Option (Refusal × Line)) [ true ↦ Some (p, m) | false ↦ Some (q, k) ])
      either true = x
      either false = h

  noted_past : (f : Option (Refusal × Line)) (xs ys : List Judgement) → Higher f → Each (NoneBelow (suc (number r))) xs
      → noted_all f (xs ++ (judgement (Some r) l ∷ ys)) ≡ noted_all (Some (r, l)) ys
  noted_past f [] ys h x = ap (λ g. noted_all g ys) (noted_now f h)
  noted_past f (j ∷ xs) ys h x = noted_past (noted f j.flaw j.line) xs ys (still_higher f j.flaw j.line h x.0) x.1

  pub first_noted : (js : List Judgement) → First r l js → noted_all None js ≡ Some (r, l)
  first_noted js x =
      rw x.stands (noted_past None x.before x.after tt x.none_before ∙ stays_noted r l x.after x.none_after)

-- no line at all has a lower number than the first of those with the lowest
pub first_is_lowest : (r : Refusal) (l : Line) (js : List Judgement) → First r l js → Each (NoneBelow (number r)) js
first_is_lowest r l js x =
    rw x.stands
    (each_both (NoneBelow (number r)) x.before (judgement (Some r) l ∷ x.after)
    (each_so (NoneBelow (suc (number r))) (NoneBelow (number r)) weaker x.before x.none_before) (omega arith, x.none_after))
  where
    weaker : (w : Option Refusal) → NoneBelow (suc (number r)) w → NoneBelow (number r) w
    weaker None h = tt
    weaker (Some p) h = omega arith

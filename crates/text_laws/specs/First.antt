-- A fault that is noted over lines, and where none is. Assumes nothing.
use Rattle.std.specs.Prelude.{◌≡◌, refl, Bool, true, false, List, [], ◌∷◌, ◌++◌, ◌<◌, ◌≤◌, ltb, None, Option, Some, is_some, T}
use Rattle.std.proofs.Common.{ap, ◌∙◌, lt-ltb, le-ltb}
use Rattle.grammar.specs.Texts.{number, noted}
use Rattle.grammar.specs.declared.Refusal.{Refusal}
use Rattle.grammar.specs.declared.Line.{Line}
use Rattle.text_laws.specs.Lined.{Judgement, noted_all, NoneBelow, Each, Clean}

-- of two faults the one that is named: the later with a lower number, or else the earlier
pub noted_lower : (q r : Refusal) (k l : Line) → number r < number q → noted (Some (q, k)) (Some r) l ≡ Some (r, l)
noted_lower q r k l h = rw (lt-ltb (number r) (number q) h, noted)

pub noted_other : (q r : Refusal) (k l : Line) → number q ≤ number r → noted (Some (q, k)) (Some r) l ≡ Some (q, k)
noted_other q r k l h = rw (le-ltb (number r) (number q) h, noted)

module _ (r : Refusal) (l : Line) where
  -- a fault that is noted stays after lines with no lower number
  pub noted_kept : (w : Option Refusal) (m : Line) → NoneBelow (number r) w → noted (Some (r, l)) w m ≡ Some (r, l)
  noted_kept None m h = refl
  noted_kept (Some p) m h = noted_other r p l m h

  pub stays_noted : (js : List Judgement) → Each (NoneBelow (number r)) js → noted_all (Some (r, l)) js ≡ Some (r, l)
  stays_noted [] h = refl
  stays_noted (j ∷ js) h = ap (λ f. noted_all f js) (noted_kept j.flaw j.line h.0) ∙ stays_noted js h.1

-- nothing is noted exactly where nothing is wrong with any line
noted_some : (f : Option (Refusal × Line)) (w : Option Refusal) (m : Line) → T (is_some f) → T (is_some (noted f w m))
noted_some f None m h = h
noted_some None (Some p) m h = tt
noted_some (Some (q, k)) (Some p) m h = either (ltb (number p) (number q))
  where
    either : (t : Bool) → T (is_some (elim t as (λ _. Option (Refusal × Line)) [ true ↦ Some (p, m) | false ↦ Some (q, k) ]))
    either true = tt
    either false = tt

still_some : (f : Option (Refusal × Line)) (js : List Judgement) → T (is_some f) → T (is_some (noted_all f js))
still_some f [] h = h
still_some f (j ∷ js) h = still_some (noted f j.flaw j.line) js (noted_some f j.flaw j.line h)

pub noted_clean : (js : List Judgement) → noted_all None js ≡ None → Clean js
noted_clean [] e = tt
noted_clean (j ∷ js) e = go j.flaw (noted_clean js) e
  where
    go : (w : Option Refusal) → (noted_all None js ≡ None → Clean js) → noted_all (noted None w j.line) js ≡ None → (w ≡ None) × Clean js
    go None later z = (refl, later z)
    go (Some p) later z = absurd (rw z at (still_some (Some (p, j.line)) js tt))

pub clean_noted : (js : List Judgement) → Clean js → noted_all None js ≡ None
clean_noted [] h = refl
clean_noted (j ∷ js) h = ap (λ w. noted_all (noted None w j.line) js) h.0 ∙ clean_noted js h.1

-- lines after lines
pub noted_more : (f : Option (Refusal × Line)) (xs ys : List Judgement) → noted_all f (xs ++ ys) ≡ noted_all (noted_all f xs) ys
noted_more f [] ys = refl
noted_more f (j ∷ xs) ys = noted_more (noted f j.flaw j.line) xs ys

-- what holds of each line
pub each_both : (P : Option Refusal → Type 0) (xs ys : List Judgement) → Each P xs → Each P ys → Each P (xs ++ ys)
each_both P [] ys h g = g
each_both P (j ∷ xs) ys h g = (h.0, each_both P xs ys h.1 g)

pub each_at : (P : Option Refusal → Type 0) (xs ys : List Judgement) (j : Judgement) → Each P (xs ++ (j ∷ ys)) → P j.flaw
each_at P [] ys j h = h.0
each_at P (x ∷ xs) ys j h = each_at P xs ys j h.1

pub each_so : (P Q : Option Refusal → Type 0) → ((w : Option Refusal) → P w → Q w) → (js : List Judgement) → Each P js → Each Q js
each_so P Q f [] h = tt
each_so P Q f (j ∷ js) h = (f j.flaw h.0, each_so P Q f js h.1)

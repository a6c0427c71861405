-- What is told of an image: where the check says 6, a rule; it is the first that is broken, by the first that breaks it; and where the image is good, all
-- rules hold. Assumes nothing.
use Rattle.std.specs.Prelude.{Err, Ok, Result, Option, Some, None, ⊤}
use mathlib.Core.Path.{◌≡◌, refl, sym, ap, ◌∙◌}
use mathlib.Core.List.{List}
use mathlib.Core.Bool.{Bool, true, false, not, true≢false}
use mathlib.Core.Logic.{◌≢◌, dite}
use Prim.Native.Nat.{ℕ, ◌+◌, ◌-◌, ◌<◌, ◌≤◌}
use native.Mathlib.Decide.{ℕ_discrete}
use native.Mathlib.Omega.{arith}
use borrow.Author.Tests.{eq-eqb, ne_eqb, eqb-true}
use lib.Dec.{eqb}
use lib.ListN.{length}
use Rattle.paper.specs.Image.{shape_of}
use Rattle.paper.specs.Rules.{Good}
use Rattle.paper.specs.Tests.{every, rules_hold}
use Rattle.paper.specs.Numbers.{number, verdict_number, too_short, not_marked, out_of_range, not_packed, wrong_segments, check}
use Rattle.paper.specs.declared.Shape.{Shape}
use Rattle.paper.specs.declared.Refusal.{Refusal}
use Rattle.laws.specs.Checked.{every_is, passed, checked_good, good_checked}
use Rattle.laws.specs.Sound.{Sized, sized_fit}
use Rattle.single_rules.specs.Each.{kind, subjects, holds}
use Rattle.single_rules.specs.declared.Rule.{Rule}
use Rattle.breaches.specs.Order.{rules, rule, number_of_rule, subject}
use Rattle.breaches.specs.First.{first_failing}
use Rattle.breaches.specs.Broken.{kept, breaker, told, breach_at, breach, broken_as, broken}
use Rattle.breaches.specs.declared.Subject.{Subject}
use Rattle.breaches.proofs.First.{FailsFirst, Says, first_says}
use Rattle.breaches.proofs.Told.{says, six_so}
use Rattle.breaches.proofs.Exact.{AllHold, rules_so, all_so}

-- the rules' numbers are their places in the order, counted from 1
place : Rule → ℕ
place r = number_of_rule r - 1

in_order : (r : Rule) → (rule (place r) ≡ r) × (place r < length rules)
unfolding rule place
in_order Rule.Flags = (refl, omega arith)
in_order Rule.Both = (refl, omega arith)
in_order Rule.Status = (refl, omega arith)
in_order Rule.Capacity = (refl, omega arith)
in_order Rule.HeadTail = (refl, omega arith)
in_order Rule.Length = (refl, omega arith)
in_order Rule.Round = (refl, omega arith)
in_order Rule.Characters = (refl, omega arith)
in_order Rule.Tasks = (refl, omega arith)
in_order Rule.Readied = (refl, omega arith)
in_order Rule.ClockRange = (refl, omega arith)
in_order Rule.ClockIdle = (refl, omega arith)
in_order Rule.Port = (refl, omega arith)
in_order Rule.IdlePort = (refl, omega arith)
in_order Rule.Sends = (refl, omega arith)
in_order Rule.Receives = (refl, omega arith)
in_order Rule.Inputs = (refl, omega arith)
in_order Rule.Outputs = (refl, omega arith)
in_order Rule.Stopped = (refl, omega arith)
in_order Rule.Peerless = (refl, omega arith)
in_order Rule.FreeSlots = (refl, omega arith)

pub numbered : (k : ℕ) → k < length rules → number_of_rule (rule k) ≡ k + 1
unfolding rule every
numbered k l = eqb-true (number_of_rule (rule k)) (k + 1) ((every_is (length rules) (λ j. eqb (number_of_rule (rule j)) (j + 1))).0 all k l)
  where
    all : every (length rules) (λ j. eqb (number_of_rule (rule j)) (j + 1)) ≡ true
    all = refl

place_so : (r : Rule) → number_of_rule r ≡ place r + 1
place_so r = sym (ap number_of_rule (in_order r).0) ∙ numbered (place r) (in_order r).1

-- they are 1 to 21
pub number_range : (r : Rule) → (1 ≤ number_of_rule r) × (number_of_rule r ≤ 21)
number_range r = (omega (arith, place_so r), omega (arith, place_so r, (in_order r).1))

-- a rule is broken first, by what breaks it first
pub record FirstBroken (s : Shape) (im : List ℕ) (r : Rule) (x : Subject) : Type 0 where
  pub k : ℕ
  pub inside : k < subjects s (kind r)
  pub is : x ≡ subject s (kind r) k
  pub breaks : holds s im r k ≡ false
  -- every task or queue before it keeps the rule
  pub earlier : (j : ℕ) → j < k → holds s im r j ≡ true
  -- and every rule before holds of all that it is of
  pub before : (p : Rule) → number_of_rule p < number_of_rule r → (j : ℕ) → j < subjects s (kind p) → holds s im p j ≡ true

-- what `breach` says
abbrev Breached : Shape → List ℕ → Option (Rule × Subject) → Type 0
Breached s im (Some (r, x)) = FirstBroken s im r x
Breached s im None = AllHold s im

module _ (s : Shape) (im : List ℕ) where
  -- a rule whose place is before k is kept
  kept_so : (k : ℕ) → every k (λ j. kept s im (rule j)) ≡ true → (p : Rule) → place p < k → (j : ℕ) → j < subjects s (kind p) → holds s im p j ≡ true
  unfolding kept
  kept_so k h p l j m =
      let e = (in_order p).0 in
      let w : kept s im p ≡ true = rw e at ((every_is k (λ j. kept s im (rule j))).0 h (place p) l) in
      (every_is (subjects s (kind p)) (holds s im p)).0 w j m

  placed : (k : ℕ) → k < length rules → (p : Rule) → number_of_rule p < number_of_rule (rule k) → place p < k
  placed k l p m = omega (arith, m, numbered k l, place_so p)

  breaker_says : (k : ℕ) → FailsFirst (length rules) k (λ j. kept s im (rule j)) → (x : Option ℕ) → Says (subjects s (kind (rule k))) (holds s im (rule k)) x
      → Breached s im (told s (rule k) x)
  unfolding kept
  breaker_says k w (Some j) v =
      record {
        k = j;
        inside = v.inside;
        is = refl;
        breaks = v.fails;
        earlier = (every_is j (holds s im (rule k))).0 v.before;
        before = λ p m. kept_so k w.before p (placed k w.inside p m);
      }
  breaker_says k w None v = absurd (true≢false (sym v ∙ w.fails))

  at_says : (x : Option ℕ) → Says (length rules) (λ j. kept s im (rule j)) x → Breached s im (breach_at s im x)
  at_says (Some k) w = breaker_says k w (breaker s im (rule k)) (says s im (rule k) (breaker s im (rule k)) refl)
  at_says None w = λ r j m. kept_so (length rules) w r (in_order r).1 j m

  breach_says : Breached s im (breach s im)
  unfolding breach
  breach_says = at_says (first_failing (length rules) (λ j. kept s im (rule j))) (first_says (length rules) (λ j. kept s im (rule j)))

-- (a) where the check says 6, a rule is told, and it is the first that is broken
pub record RuleTold (im : List ℕ) : Type 0 where
  pub of : Rule
  pub by : Subject
  pub told : broken im ≡ Ok (Some (of, by))
  pub first : FirstBroken (shape_of im) im of by

six_told : (im : List ℕ) → verdict_number (check im) ≡ 6 → broken im ≡ Ok (breach (shape_of im) im)
unfolding broken
six_told im = go (check im)
  where
    go : (v : Result ⊤ Refusal) → verdict_number v ≡ 6 → broken_as v im ≡ Ok (breach (shape_of im) im)
    go (Ok tt) e = absurd (omega arith)
    go (Err r) e = rw (eq-eqb (number r) 6 e)

pub six_has_a_rule : (im : List ℕ) → verdict_number (check im) ≡ 6 → RuleTold im
six_has_a_rule im e = go (breach (shape_of im) im) (breach_says (shape_of im) im) (six_told im e)
  where
    w : Sized (shape_of im) im × (rules_hold (shape_of im) im ≡ false)
    w = six_so im e

    go : (b : Option (Rule × Subject)) → Breached (shape_of im) im b → broken im ≡ Ok b → RuleTold im
    go (Some (r, x)) h t = record { of = r; by = x; told = t; first = h }
    go None h t = absurd (true≢false (sym (rules_so (shape_of im) im (sized_fit (shape_of im) im w.0) h) ∙ w.1))

-- (b) a rule is told only there, and it is the first that is broken, by the first that breaks it
other_told : (im : List ℕ) → verdict_number (check im) ≢ 6 → (r : Rule) (x : Subject) → broken im ≡ Ok (Some (r, x)) → ⊥
unfolding broken
other_told im = go (check im)
  where
    go : (v : Result ⊤ Refusal) → verdict_number v ≢ 6 → (r : Rule) (x : Subject) → broken_as v im ≡ Ok (Some (r, x)) → ⊥
    go (Ok tt) n r x t = let z : ◌≡◌ {A = ℕ} 0 1 = cc in omega arith
    go (Err q) n r x t = let u = rw (ne_eqb (number q) 6 n) at t in let z : ◌≡◌ {A = ℕ} 0 1 = cc in omega arith

pub told_is_first : (im : List ℕ) (r : Rule) (x : Subject) → broken im ≡ Ok (Some (r, x)) → (verdict_number (check im) ≡ 6) × FirstBroken (shape_of im) im r x
told_is_first im r x t =
    dite (ℕ_discrete (verdict_number (check im)) 6) (λ e.
    let h = sym (six_told im e) ∙ t in
    let g : breach (shape_of im) im ≡ Some (r, x) = cc in
    (e, rw g at (breach_says (shape_of im) im)))
    (λ n. absurd (other_told im n r x t))

-- (c) of a good image all rules hold, and nothing is told; so the twenty-one rules are what number 6 goes by
fine_so : (im : List ℕ) → check im ≡ Ok tt → rules_hold (shape_of im) im ≡ true
unfolding check
fine_so im e =
    let s : Shape = shape_of im in
    let a = ((passed (too_short im) Refusal.TooShort _).0 e).1 in
    let b = ((passed (not_marked im) Refusal.NotMarked _).0 a).1 in
    let c = ((passed (out_of_range s) Refusal.OutOfRange _).0 b).1 in
    let d = ((passed (not_packed s) Refusal.NotPacked _).0 c).1 in
    let f = ((passed (wrong_segments s im) Refusal.WrongSegments _).0 d).1 in
    not_not (rules_hold s im) ((passed (not (rules_hold s im)) Refusal.RuleBroken (Ok tt)).0 f).0
  where
    not_not : (b : Bool) → not b ≡ false → b ≡ true
    not_not true e = refl
    not_not false e = absurd (true≢false e)

pub good_holds : (s : Shape) (im : List ℕ) → Good s im → AllHold (shape_of im) im
good_holds s im g =
    let e = good_checked s im g in
    all_so (shape_of im) im (checked_good im e).laid.fit (fine_so im e)

pub good_told : (s : Shape) (im : List ℕ) → Good s im → broken im ≡ Ok None
unfolding broken
good_told s im g = let e = good_checked s im g in rw e

-- elsewhere what is told follows from the verdict alone
pub told_else : (im : List ℕ) → verdict_number (check im) ≢ 6 → (P : Result (Option (Rule × Subject)) Refusal → ℕ → Type 0) → P (Ok None) 0
    → ((r : Refusal) → P (Err r) (number r)) → P (broken im) (verdict_number (check im))
unfolding broken
told_else im ne P fine refused = go (check im) ne
  where
    go : (v : Result ⊤ Refusal) → verdict_number v ≢ 6 → P (broken_as v im) (verdict_number v)
    go (Ok tt) n = fine
    go (Err r) n = rw (ne_eqb (number r) 6 n) (refused r)

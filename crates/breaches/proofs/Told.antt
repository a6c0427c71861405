-- The first broken rule, as the code finds it. Assumes nothing.
use Rattle.std.specs.Prelude.{Err, Ok, Result, Option, Some, None, ⊤}
use mathlib.Core.Path.{◌≡◌, refl, sym, ap, ◌∙◌}
use mathlib.Core.List.{List}
use mathlib.Core.Bool.{Bool, true, false, not}
use mathlib.Core.Logic.{◌≢◌}
use Prim.Native.Nat.{ℕ, ◌*◌, ◌<◌, ◌≤◌}
use native.Mathlib.Nat.{mul-le-mul}
use native.Mathlib.Omega.{arith}
use borrow.Author.Tests.{eqb-true}
use denote.Enum.Bare.{sameb}
use lib.Dec.{eqb}
use Rattle.paper.specs.contracts.Refusal.{the_type}
use lib.ListN.{length}
use Rattle.paper.specs.Image.{task, most_tasks, shape_of}
use Rattle.paper.specs.Rules.{Fit}
use Rattle.paper.specs.Tests.{every, rules_hold}
use Rattle.paper.specs.Numbers.{number, verdict_number, refused_if, too_short, not_marked, out_of_range, not_packed, wrong_segments, check}
use Rattle.paper.specs.declared.Shape.{Shape}
use Rattle.paper.specs.declared.Queue.{Queue}
use Rattle.paper.specs.declared.Refusal.{Refusal}
use Rattle.laws.specs.Every.{every_fails}
use Rattle.laws.specs.Sound.{Sized}
use Rattle.inspect.proofs.Tested.{sized_so}
use Rattle.single_rules.specs.Each.{kind, queues, subjects, queue, holds}
use Rattle.single_rules.specs.declared.Rule.{Rule}
use Rattle.single_rules.specs.declared.Kind.{Kind}
use Rattle.breaches.specs.Order.{rules, rule, subject}
use Rattle.breaches.specs.Broken.{kept, breaker, breach, broken, TellsBroken}
use Rattle.breaches.specs.declared.Subject.{Subject}
use Rattle.breaches.proofs.First.{Says, first_says, first_at, first_nowhere}

-- how many tasks, queues or clocks there are, and which each is
pub few_pairs : (s : Shape) → Fit s → s.n * s.n ≤ most_tasks * most_tasks
few_pairs s f = mul-le-mul f.tasks.1 f.tasks.1

module _ (s : Shape) (κ : Kind) (k : ℕ) where
  pub task_few : Fit s → k < subjects s κ → κ ≡ Kind.Task → k < 65536
  task_few f l e = let h = rw e at l in omega (arith, h, f.tasks.1)

  pub queue_in : Fit s → k < subjects s κ → κ ≡ Kind.Queue → Fit s × (k < queues s)
  queue_in f l e = (f, rw e at l)

  pub task_told : κ ≡ Kind.Task → Subject.Task (task k) ≡ subject s κ k
  task_told e = rw e

  pub queue_told : (q : Queue) → q ≡ queue s k → κ ≡ Kind.Queue → Subject.Queue q ≡ subject s κ k
  queue_told q eq e = rw (e, eq)

-- where a rule fails first
module _ (s : Shape) (im : List ℕ) (r : Rule) (κ : Kind) (end : ℕ) (eκ : κ ≡ kind r) (ee : end ≡ subjects s κ) (k : ℕ) where
  pub in_end : k < end → k < subjects s (kind r)
  in_end l = rw (ee, eκ) at l

  pub breaks_at : k < end → every k (holds s im r) ≡ true → (b : Bool) → b ≡ holds s im r k → b ≡ false → Some k ≡ breaker s im r
  unfolding breaker
  breaks_at l h b eb n =
      sym (first_at (subjects s (kind r)) k (holds s im r) record { inside = in_end l; before = h; fails = sym eb ∙ n })

  pub breaks_nowhere : end ≤ k → k ≤ end → every k (holds s im r) ≡ true → None ≡ breaker s im r
  unfolding breaker
  breaks_nowhere a b h =
      let e : k ≡ subjects s (kind r) = omega (arith, a, b) ∙ ee ∙ ap (subjects s) eκ in
      sym (first_nowhere (subjects s (kind r)) (holds s im r) (rw (← e) h))

-- a rule that something breaks is not kept, and one that nothing breaks is
module _ (s : Shape) (im : List ℕ) (r : Rule) where
  pub says : (x : Option ℕ) → x ≡ breaker s im r → Says (subjects s (kind r)) (holds s im r) x
  unfolding breaker
  says x e = rw e (first_says (subjects s (kind r)) (holds s im r))

  pub not_kept : (k : ℕ) → Some k ≡ breaker s im r → kept s im r ≡ false
  unfolding kept
  not_kept k e = let w = says (Some k) e in every_fails (subjects s (kind r)) k (holds s im r) w.inside w.fails

  pub is_kept : None ≡ breaker s im r → kept s im r ≡ true
  unfolding kept
  is_kept e = says None e

-- the rules before k are kept
abbrev pub KeptBefore : Shape → List ℕ → ℕ → Type 0
KeptBefore s im k = every k (λ j. kept s im (rule j)) ≡ true

module _ (s : Shape) (im : List ℕ) (k : ℕ) (h : KeptBefore s im k) where
  pub breach_told : k < length rules → (r : Rule) (x : Option ℕ) (at : ℕ) (κ : Kind) (y : Subject) → r ≡ rule k → x ≡ breaker s im r → x ≡ Some at → κ ≡ kind r
      → y ≡ subject s κ at → Some (r, y) ≡ breach s im
  unfolding breach
  breach_told l r x at κ y er ex ea eκ ey =
      let b : Some at ≡ breaker s im (rule k) = sym ea ∙ ex ∙ ap (breaker s im) er in
      let f = first_at (length rules) k (λ j. kept s im (rule j)) record { inside = l; before = h; fails = not_kept s im (rule k) at b } in
      rw (f, ← b, ey, eκ, er)

  pub breach_none : length rules ≤ k → k ≤ length rules → None ≡ breach s im
  unfolding breach
  breach_none a b =
      let e : k ≡ length rules = omega (arith, a, b) in
      let f = first_nowhere (length rules) (λ j. kept s im (rule j)) (rw (← e) h) in
      rw f

-- the subject that is told is one
pub at_in : (s : Shape) (im : List ℕ) (r : Rule) (x : Option ℕ) (at : ℕ) (κ : Kind) → x ≡ breaker s im r → x ≡ Some at → κ ≡ kind r → at < subjects s κ
at_in s im r x at κ ex ea eκ = rw eκ (says s im r (Some at) (sym ea ∙ ex)).inside

-- an image that is refused with 6 has a shape, and not all its rules hold
passed_by : (b : Bool) (r : Refusal) (v : Result ⊤ Refusal) → number r ≢ 6 → verdict_number (refused_if b r v) ≡ 6 → (b ≡ false) × (verdict_number v ≡ 6)
passed_by true r v n e = absurd (n e)
passed_by false r v n e = (refl, e)

last_by : (b : Bool) → verdict_number (refused_if (not b) Refusal.RuleBroken (Ok tt)) ≡ 6 → b ≡ false
last_by true e = absurd (omega arith)
last_by false e = refl

pub six_so : (im : List ℕ) → verdict_number (check im) ≡ 6 → Sized (shape_of im) im × (rules_hold (shape_of im) im ≡ false)
unfolding check
six_so im e =
    let s : Shape = shape_of im in
    let a = passed_by (too_short im) Refusal.TooShort _ (λ z. omega arith) e in
    let b = passed_by (not_marked im) Refusal.NotMarked _ (λ z. omega arith) a.1 in
    let c = passed_by (out_of_range s) Refusal.OutOfRange _ (λ z. omega arith) b.1 in
    let d = passed_by (not_packed s) Refusal.NotPacked _ (λ z. omega arith) c.1 in
    let f = passed_by (wrong_segments s im) Refusal.WrongSegments _ (λ z. omega arith) d.1 in
    (sized_so s im refl _ _ refl c.0 refl d.0 _ refl f.0, last_by (rules_hold s im) f.1)

-- a refusal is compared as its number is
six_is : (r : Refusal) → sameb the_type r Refusal.RuleBroken ≡ eqb (number r) (number Refusal.RuleBroken)
six_is Refusal.TooShort = refl
six_is Refusal.NotMarked = refl
six_is Refusal.OutOfRange = refl
six_is Refusal.NotPacked = refl
six_is Refusal.WrongSegments = refl
six_is Refusal.RuleBroken = refl
six_is Refusal.MalformedEvent = refl
six_is Refusal.InputFull = refl
six_is Refusal.PortIdle = refl
six_is Refusal.BadPlan = refl
six_is Refusal.WrongTarget = refl
six_is Refusal.CountFull = refl

-- what is told of an image that is refused
module _ (im : List ℕ) (r : Refusal) (v : check im ≡ Err r) (b : Bool) (eb : b ≡ sameb the_type r Refusal.RuleBroken) where
  compared : eqb (number r) (number Refusal.RuleBroken) ≡ b
  compared = sym (six_is r) ∙ sym eb

  module _ (six : b ≡ true) (s : Shape) (es : s ≡ shape_of im) where
    pub six_sized : Sized s im
    six_sized = rw es (six_so im (ap verdict_number v ∙ eqb-true _ _ (compared ∙ six))).0

    pub tells_breach : (x : Option (Rule × Subject)) → x ≡ breach s im → TellsBroken im (Ok x)
    unfolding broken
    tells_breach x ex = record { told = rw (v, compared, six, ex, es) }

  pub tells_refused : b ≡ false → TellsBroken im (Err r)
  unfolding broken
  tells_refused other = record { told = rw (v, compared, other) }

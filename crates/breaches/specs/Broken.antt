-- The first broken rule of an image, and the first task or queue that breaks it.
use Rattle.std.specs.Prelude.{◌≡◌, List, Bool, cond, ℕ, eqb, length, Err, Ok, Result, Option, Some, None, ⊤}
use Rattle.paper.specs.Image.{shape_of}
use Rattle.paper.specs.Tests.{every}
use Rattle.paper.specs.Numbers.{number, check}
use Rattle.paper.specs.declared.Shape.{Shape}
use Rattle.paper.specs.declared.Refusal.{Refusal}
use Rattle.single_rules.specs.Each.{kind, subjects, holds}
use Rattle.single_rules.specs.declared.Rule.{Rule}
use Rattle.breaches.specs.Order.{rules, rule, subject}
use Rattle.breaches.specs.declared.Subject.{Subject}
use Rattle.breaches.specs.First.{first_failing}

-- a rule holds of all that it is of
unfoldable pub kept : Shape → List ℕ → Rule → Bool
kept s im r = every (subjects s (kind r)) (holds s im r)

-- the first that breaks a rule
unfoldable pub breaker : Shape → List ℕ → Rule → Option ℕ
breaker s im r = first_failing (subjects s (kind r)) (holds s im r)

-- a rule told with what breaks it
abbrev pub told : Shape → Rule → Option ℕ → Option (Rule × Subject)
told s r (Some k) = Some (r, subject s (kind r) k)
told s r None = None

-- the first rule that is broken
abbrev pub breach_at : Shape → List ℕ → Option ℕ → Option (Rule × Subject)
breach_at s im (Some k) = told s (rule k) (breaker s im (rule k))
breach_at s im None = None

unfoldable pub breach : Shape → List ℕ → Option (Rule × Subject)
breach s im = breach_at s im (first_failing (length rules) (λ k. kept s im (rule k)))

-- only an image that is refused with 6 has a broken rule to tell
abbrev pub broken_as : Result ⊤ Refusal → List ℕ → Result (Option (Rule × Subject)) Refusal
broken_as (Ok tt) im = Ok None
broken_as (Err r) im = cond (eqb (number r) (number Refusal.RuleBroken)) (Ok (breach (shape_of im) im)) (Err r)

unfoldable pub broken : List ℕ → Result (Option (Rule × Subject)) Refusal
broken im = broken_as (check im) im

-- what the call promises
pub record TellsBroken (image : List ℕ) (answer : Result (Option (Rule × Subject)) Refusal) : Type 0 where
  pub told : answer ≡ broken image

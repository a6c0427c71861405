-- What a build answers, and what it leaves of the target. Assumes nothing.
use Rattle.std.specs.Prelude.{Err, Ok, Result, ℕ, ⊤}
use mathlib.Core.Path.{◌≡◌, ◌∙◌}
use mathlib.Core.List.{List}
use mathlib.Core.Logic.{◌≢◌}
use Prim.Native.Nat.{ℕ}
use borrow.Author.Tests.{eq-eqb, ne_eqb}
use lib.ListN.{length}
use Rattle.paper.specs.Image.{total}
use Rattle.paper.specs.Plans.{fresh, plan_shape}
use Rattle.paper.specs.Numbers.{verdict_number, check_plan, check_build}
use Rattle.paper.specs.Calls.{built}
use Rattle.paper.specs.Promises.{Measures, Builds}
use Rattle.paper.specs.declared.Shape.{Shape}
use Rattle.paper.specs.declared.Refusal.{Refusal}
use Rattle.plans.specs.Sizes.{told_words, told_refusal}
use Rattle.fresh_parts.specs.Accepted.{Plan, accepted}

module _ (plan target : List ℕ) (found : Result ℕ Refusal) (m : Measures plan found) where
  pub refused_plan : (r : Refusal) → found ≡ Err r → (Err r ≡ check_build plan target) × (target ≡ built plan target)
  unfolding built check_build
  refused_plan r er = let e = told_refusal plan found r m er in (rw e, rw e)

  module _ (t : ℕ) (et : found ≡ Ok t) where
    pub sized_fine : check_plan plan ≡ Ok tt
    sized_fine = (told_words plan found t m et).0

    pub sized_total : t ≡ total (plan_shape plan)
    sized_total = (told_words plan found t m et).1

    pub refused_target : length target ≢ t → (Err Refusal.WrongTarget ≡ check_build plan target) × (target ≡ built plan target)
    unfolding built check_build
    refused_target ne =
        let e = ne_eqb (length target) t ne in
        (rw (sized_fine, ← sized_total, e), rw (sized_fine, ← sized_total, e))

    pub built_plan : (out : List ℕ) → length target ≡ t → out ≡ fresh plan → (Ok tt ≡ check_build plan target) × (out ≡ built plan target)
    unfolding built check_build
    built_plan out long eo =
        let e = eq-eqb (length target) t long in
        (rw (sized_fine, ← sized_total, e), rw (sized_fine, ← sized_total, e) eo)

    module _ (s : Shape) (es : s ≡ plan_shape plan) where
      pub sized_plan : Plan s plan
      sized_plan = accepted s plan es sized_fine

      pub target_long : length target ≡ t → length target ≡ total s
      target_long long = rw es (long ∙ sized_total)

-- the number that a build answers
pub built_numbered : (plan target out : List ℕ) (v : Result ⊤ Refusal) (n : ℕ) → v ≡ check_build plan target → out ≡ built plan target
    → n ≡ verdict_number v → Builds plan target n out
built_numbered plan target out v n ev eo en = record { answered = rw (en, ev); left = eo }

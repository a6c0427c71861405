-- The largest first offset and the smallest T are reached, each by the good image of an accepted plan. Proved by computation. Assumes nothing.
use Rattle.std.specs.Prelude.{Ok}
use mathlib.Core.Path.{◌≡◌, refl}
use mathlib.Core.List.{List, [], ◌∷◌}
use Prim.Native.Nat.{ℕ, zero, suc}
use Rattle.paper.specs.Image.{total, start}
use Rattle.paper.specs.Rules.{Good}
use Rattle.paper.specs.Plans.{plan_shape, fresh}
use Rattle.paper.specs.Tests.{every}
use Rattle.paper.specs.Numbers.{out_of_range, plan_broken, check_plan}
use Rattle.paper.specs.declared.Part.{Part}
use Rattle.laws.specs.Fresh.{fresh_good}

-- so many segments of one word, without a program
abbrev segments : ℕ → List ℕ
segments zero = []
segments (suc k) = 1 ∷ 0 ∷ segments k

-- the most tasks with the largest buffers, and one task with the smallest
abbrev largest : List ℕ
largest = 16 ∷ 1 ∷ 32 ∷ 32 ∷ 32 ∷ segments 16

abbrev smallest : List ℕ
smallest = 1 ∷ 1 ∷ 1 ∷ 1 ∷ 1 ∷ segments 1

pub record Reached : Type 0 where
  pub offset : start (plan_shape largest) Part.Segments ≡ 10646
  pub offset_good : Good (plan_shape largest) (fresh largest)
  pub words : total (plan_shape smallest) ≡ 54
  pub words_good : Good (plan_shape smallest) (fresh smallest)

largest_taken : check_plan largest ≡ Ok tt
unfolding check_plan out_of_range plan_broken plan_shape every total
largest_taken = refl

smallest_taken : check_plan smallest ≡ Ok tt
unfolding check_plan out_of_range plan_broken plan_shape every total
smallest_taken = refl

pub reached : Reached
unfolding total plan_shape
reached =
    record {
      offset = refl;
      offset_good = fresh_good largest largest_taken;
      words = refl;
      words_good = fresh_good smallest smallest_taken;
    }

-- What a plan gives: its sizes, what its pairs add up to, a packed shape, and what its size tells. Assumes nothing.
use Rattle.std.specs.Prelude.{◌≡◌, refl, List, Bool, ℕ, ◌+◌, ◌*◌, ◌≤◌, get_or, Err, Ok, Result, ⊤}
use Rattle.std.proofs.Common.{sym, ◌∙◌, ap, arith}
use Rattle.paper.specs.Image.{most_tasks, offsets, start, total}
use Rattle.paper.specs.Tests.{every}
use Rattle.paper.specs.Plans.{program_start, segment_words, plan_shape}
use Rattle.paper.specs.Numbers.{pair_right, check_plan}
use Rattle.paper.specs.Calls.{plan_size, size_as, size_value}
use Rattle.paper.specs.Promises.{Measures}
use Rattle.paper.specs.declared.Shape.{Shape}
use Rattle.paper.specs.declared.Part.{Part}
use Rattle.paper.specs.declared.Refusal.{Refusal}
use Rattle.laws.specs.Layout.{Ranged, fit_ranged}
use Rattle.laws.specs.Fresh.{planned}

-- the most that the segment lengths of a plan add up to
abbrev pub most_planned : ℕ
most_planned = most_tasks * 65535

-- what the pairs of n tasks add up to
pub record Summed (plan : List ℕ) (n : ℕ) (right : Bool) (words end : ℕ) : Type 0 where
  pub pairs : right ≡ every n (pair_right plan)
  pub segments : words ≡ segment_words plan n
  pub programs : end ≡ program_start plan n
  pub small : words ≤ 65535 * n
  pub near : end ≤ 37 + 65535 * n

-- N, S and the capacities as a plan gives them
pub record SizesOf (plan : List ℕ) (s : Shape) : Type 0 where
  pub tasks : s.n ≡ get_or plan 0 0
  pub slice : s.slice ≡ get_or plan 1 0
  pub inputs : s.ci ≡ get_or plan 2 0
  pub outputs : s.co ≡ get_or plan 3 0
  pub messages : s.cm ≡ get_or plan 4 0

-- a shape in range whose offsets are the packed ones
pub record Packed (s : Shape) : Type 0 where
  pub ranged : Ranged s
  pub packed : s.starts ≡ offsets s
  pub words : s.words ≤ most_planned

-- the offset of the segments
pub first_is : (s : Shape) (l : List ℕ) → l ≡ offsets s → get_or l 8 0 ≡ start s Part.Segments
first_is s l e = rw e

module _ (plan : List ℕ) where
  -- the verdict that an answer tells
  words_from : (v : Result ⊤ Refusal) (t : ℕ) → Ok t ≡ size_as v plan → (v ≡ Ok tt) × (t ≡ total (plan_shape plan))
  words_from (Ok tt) t e = (refl, ap size_value e)
  words_from (Err r) t e = let z : ◌≡◌ {A = ℕ} 0 1 = cc in absurd (omega arith)

  refusal_from : (v : Result ⊤ Refusal) (r : Refusal) → Err r ≡ size_as v plan → v ≡ Err r
  refusal_from (Ok tt) r e = let z : ◌≡◌ {A = ℕ} 0 1 = cc in absurd (omega arith)
  refusal_from (Err q) r e = cc

  pub told_words : (answer : Result ℕ Refusal) (t : ℕ) → Measures plan answer → answer ≡ Ok t
      → (check_plan plan ≡ Ok tt) × (t ≡ total (plan_shape plan))
  unfolding plan_size
  told_words answer t m e = words_from (check_plan plan) t (sym e ∙ m.answered)

  pub told_refusal : (answer : Result ℕ Refusal) (r : Refusal) → Measures plan answer → answer ≡ Err r → check_plan plan ≡ Err r
  unfolding plan_size
  told_refusal answer r m e = refusal_from (check_plan plan) r (sym e ∙ m.answered)

  -- what an accepted plan leaves to the later steps
  pub fine_ranged : check_plan plan ≡ Ok tt → Ranged (plan_shape plan)
  fine_ranged e = fit_ranged (plan_shape plan) (planned plan e).fit

-- How a plan is measured: its pairs added up, its shape, and the tests in their order. Assumes nothing.
use Rattle.std.specs.Prelude.{Err, Ok, Result, ℕ}
use mathlib.Core.Path.{◌≡◌, refl, sym, ◌∙◌, ap}
use mathlib.Core.List.{List}
use mathlib.Core.Bool.{Bool, true, false, not, ◌&&◌, ◌||◌}
use Prim.Native.Nat.{ℕ, ◌+◌, ◌-◌, ◌*◌, ◌<◌, ◌≤◌}
use native.Mathlib.Numerals.{add-one}
use native.Mathlib.Omega.{arith}
use borrow.Author.Tests.{lt-ltb, le-ltb}
use Rattle.std.proofs.Math.Bool.{or-false, or-true}
use lib.Dec.{eqb, leb, ltb}
use lib.ListN.{get_or, length}
use Rattle.paper.specs.Image.{most_tasks, most_words, offsets, start, total}
use Rattle.paper.specs.Tests.{every}
use Rattle.paper.specs.Plans.{plan_tasks, segment_length, program_length, segment_words, plan_shape}
use Rattle.paper.specs.Numbers.{pair_right, out_of_range, plan_broken, check_plan}
use Rattle.paper.specs.Calls.{plan_size, size_number, size_value}
use Rattle.paper.specs.Promises.{Measures}
use Rattle.paper.specs.declared.Shape.{Shape}
use Rattle.paper.specs.declared.Part.{Part}
use Rattle.paper.specs.declared.Refusal.{Refusal}
use Rattle.laws.specs.Every.{every_none}
use Rattle.laws.specs.Layout.{Ranged, largest_offset, total_is}
use Rattle.laws.specs.Checked.{ranged_is}
use Rattle.laws.specs.Fresh.{planned}
use Rattle.headers.specs.Shaped.{shaped}
use Rattle.plans.specs.Sizes.{most_planned, Summed, SizesOf, Packed, first_is}

-- the pairs, one after another
pub no_pairs : (plan : List ℕ) (n : ℕ) → n ≤ most_tasks → n ≡ plan_tasks plan → Summed plan 0 true 0 (5 + 2 * n)
no_pairs plan n h e =
    record { pairs = sym (every_none _); segments = refl; programs = rw e; small = omega arith; near = omega arith }

pub one_pair_more : (plan : List ℕ) (k l p words end : ℕ) (right a b : Bool) → Summed plan k right words end
    → l ≡ segment_length plan k → p ≡ program_length plan k → a ≡ (leb 1 l && leb p l) → b ≡ (right && a) → l ≤ 65535 → p ≤ 65535
    → Summed plan (k + 1) b (words + l) (end + p)
unfolding every
one_pair_more plan k l p words end right a b sum el ep ea eb hl hp =
    record {
      pairs = rw (eb, ea, sum.pairs, el, ep, add-one);
      segments = rw (add-one, el, sum.segments);
      programs = rw (add-one, ep, sum.programs);
      small = omega (arith, sum.small);
      near = omega (arith, sum.near);
    }

-- the shape that a plan gives
module _ (plan : List ℕ) where
  pub same_range : (s : Shape) → SizesOf plan s → out_of_range s ≡ out_of_range (plan_shape plan)
  unfolding out_of_range plan_shape
  same_range s z = rw (z.tasks, z.slice, z.inputs, z.outputs, z.messages)

  pub sizes_ranged : (s : Shape) → SizesOf plan s → Ranged (plan_shape plan) → Ranged s
  unfolding plan_shape
  sizes_ranged s z r =
      record {
        tasks = rw z.tasks r.tasks;
        slice = rw z.slice r.slice;
        inputs = rw z.inputs r.inputs;
        outputs = rw z.outputs r.outputs;
        messages = rw z.messages r.messages;
      }

  pub planned_shape : (s : Shape) (l : List ℕ) (w : ℕ) → SizesOf plan s → l ≡ offsets s → w ≡ segment_words plan (plan_tasks plan)
      → shaped s.n s.slice s.ci s.co s.cm l w ≡ plan_shape plan
  unfolding plan_shape
  planned_shape s l w z el ew = rw (el, ew, z.tasks, z.slice, z.inputs, z.outputs, z.messages)

  pub planned_packed : (s : Shape) (l : List ℕ) (w : ℕ) → l ≡ offsets s → w ≤ most_planned → Ranged s
      → Packed (shaped s.n s.slice s.ci s.co s.cm l w)
  planned_packed s l w el h r =
      record {
        ranged = record { tasks = r.tasks; slice = r.slice; inputs = r.inputs; outputs = r.outputs; messages = r.messages };
        packed = el;
        words = h;
      }

  -- the words of the segments: added up, or what T leaves
  pub words_added : (n w end : ℕ) (right : Bool) → n ≡ get_or plan 0 0 → n ≤ most_tasks → Summed plan n right w end
      → (w ≡ segment_words plan (plan_tasks plan)) × (w ≤ most_planned)
  words_added n w end right e h sum = (rw (← e) sum.segments, omega (arith, sum.small))

  start_planned : (s : Shape) → SizesOf plan s → start s Part.Segments ≡ start (plan_shape plan) Part.Segments
  unfolding plan_shape
  start_planned s z = rw (z.tasks, z.inputs, z.outputs, z.messages)

  words_planned : (plan_shape plan).words ≡ segment_words plan (plan_tasks plan)
  unfolding plan_shape
  words_planned = refl

  pub words_left : (s : Shape) (first whole : ℕ) → SizesOf plan s → first ≡ start s Part.Segments → check_plan plan ≡ Ok tt
      → whole ≡ total (plan_shape plan) → (whole - first ≡ segment_words plan (plan_tasks plan)) × (whole - first ≤ most_planned)
  words_left s first whole z ef fine ew =
      (omega (arith, start_planned s z, total_is (plan_shape plan), words_planned), omega (arith, (planned plan fine).fit.words))

  pub first_inside : (s : Shape) (first whole : ℕ) → SizesOf plan s → first ≡ start s Part.Segments → whole ≡ total (plan_shape plan) → first ≤ whole
  first_inside s first whole z ef ew = omega (arith, start_planned s z, total_is (plan_shape plan))

  pub total_planned : (s : Shape) (first w end : ℕ) (right : Bool) → SizesOf plan s → first ≡ start s Part.Segments → Summed plan s.n right w end
      → first + w ≡ total (plan_shape plan)
  total_planned s first w end right z ef sum =
      let e : w ≡ segment_words plan (plan_tasks plan) = rw (← z.tasks) sum.segments in
      omega (arith, start_planned s z, total_is (plan_shape plan), words_planned)

-- sizes that are not out of range
pub range_inside : (s : Shape) (r : Bool) → r ≡ out_of_range s → r ≡ false → Ranged s
range_inside s r er inside =
    let h = (ranged_is s).0 (sym er ∙ inside) in
    record { tasks = h.0; slice = h.1; inputs = h.2; outputs = h.3; messages = h.4 }

pub few_sizes : (plan : List ℕ) (s : Shape) (r : Bool) → SizesOf plan s → r ≡ out_of_range s → r ≡ false → (s.n ≤ most_tasks) × (s.n ≡ plan_tasks plan)
few_sizes plan s r z er inside = ((range_inside s r er inside).tasks.1, z.tasks)

pub sum_small : (plan : List ℕ) (s : Shape) (r : Bool) (first w end : ℕ) (right : Bool) → r ≡ out_of_range s → r ≡ false → first ≡ start s Part.Segments
    → Summed plan s.n right w end → first + w ≤ 1059206
sum_small plan s r first w end right er inside ef sum =
    let h = range_inside s r er inside in
    omega (arith, largest_offset s h, sum.small, h.tasks)

-- T of a packed shape
module _ (s : Shape) (p : Packed s) where
  pub total_made : get_or s.starts 8 0 + s.words ≡ total s
  total_made = rw (first_is s s.starts p.packed) (sym (total_is s))

  pub total_small : get_or s.starts 8 0 + s.words ≤ 1059206
  total_small = omega (arith, first_is s s.starts p.packed, largest_offset s p.ranged, p.words)

-- the other rules of plans
module _ (plan : List ℕ) where
  pub few_tasks : (n : ℕ) → n ≡ get_or plan 0 0 → Ranged (plan_shape plan) → n ≤ most_tasks
  unfolding plan_shape
  few_tasks n e r = rw e r.tasks.1

  pub broken_tested : (n w end t : ℕ) → n ≡ get_or plan 0 0 → Summed plan n true w end → t ≡ total (plan_shape plan)
      → (ltb (length plan) (5 + 2 * n) || not (eqb (length plan) end) || ltb most_words t) ≡ plan_broken plan
  unfolding plan_broken
  broken_tested n w end t en sum et =
      let pairs = rw en at sum.pairs in
      let programs = rw en at sum.programs in
      rw (et, programs, en, ← pairs, or-false) refl

  pub pairs_broken : (n : ℕ) → n ≡ get_or plan 0 0 → every n (pair_right plan) ≡ false → plan_broken plan ≡ true
  unfolding plan_broken
  pairs_broken n en wrong =
      let e : every (get_or plan 0 0) (pair_right plan) ≡ false = rw (← en) wrong in
      rw (e, or-true (ltb (length plan) (5 + 2 * get_or plan 0 0))) refl

  -- the answer that a verdict gives
  measured : (answer : Result ℕ Refusal) → answer ≡ plan_size plan → Measures plan answer
  measured answer e = record { answered = e; numbered = ap size_number e; valued = ap size_value e }

  refused : (r : Refusal) → check_plan plan ≡ Err r → Measures plan (Err r)
  unfolding plan_size
  refused r e = measured (Err r) (rw e)

  -- the answer, test by test
  pub short_so : length plan < 5 → Measures plan (Err Refusal.BadPlan)
  unfolding check_plan
  short_so h = refused Refusal.BadPlan (rw (lt-ltb (length plan) 5 h))

  module _ (long : 5 ≤ length plan) (s : Shape) (z : SizesOf plan s) (r : Bool) (er : r ≡ out_of_range s) where
    pub range_so : r ≡ true → Measures plan (Err Refusal.OutOfRange)
    unfolding check_plan
    range_so e = refused Refusal.OutOfRange (rw (le-ltb (length plan) 5 long, ← same_range plan s z, ← er, e))

    module _ (inside : r ≡ false) (b : Bool) (eb : b ≡ plan_broken plan) where
      pub broken_so : b ≡ true → Measures plan (Err Refusal.BadPlan)
      unfolding check_plan
      broken_so e = refused Refusal.BadPlan (rw (le-ltb (length plan) 5 long, ← same_range plan s z, ← er, inside, ← eb, e))

      pub size_so : b ≡ false → (t : ℕ) → t ≡ total (plan_shape plan) → Measures plan (Ok t)
      unfolding check_plan plan_size
      size_so e t et = measured (Ok t) (rw (le-ltb (length plan) 5 long, ← same_range plan s z, ← er, inside, ← eb, e, et))

pub all_pairs : (plan : List ℕ) (n k : ℕ) (right : Bool) (words end : ℕ) → Summed plan k right words end → n ≤ k → k ≤ n → Summed plan n right words end
all_pairs plan n k right words end sum h l = let z : n ≡ k = omega arith in rw z sum

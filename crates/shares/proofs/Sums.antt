-- Sums of counts: one count more, all of them, a row of them; how large they can be. Assumes nothing.
use mathlib.Core.Path.{◌≡◌, refl, sym, ap, ◌∙◌}
use mathlib.Core.Bool.{Bool, true, false, cond}
use mathlib.Core.List.{List, [], ◌∷◌, ◌++◌}
use Prim.Native.Nat.{ℕ, ◌+◌, ◌-◌, ◌*◌, ◌<◌, ◌≤◌}
use native.Mathlib.Omega.{arith}
use lib.ListN.{take, drop, take-append-drop}
use lib.Dec.{ltb}
use borrow.Author.Tests.{lt-ltb, le-ltb}
use Rattle.std.specs.Prelude.{sum as list_sum}
use Rattle.std.proofs.lemmas.List.Recursion.{is_sum_by}
use Rattle.paper.specs.Image.{most_tasks}
use Rattle.paper.specs.Counts.{sum, headings, task_ticks, all_ticks}

-- of two lists, one after the other
pub sum_joined : (l m : List ℕ) → sum (l ++ m) ≡ sum l + sum m
unfolding sum
sum_joined [] m = omega arith
sum_joined (n ∷ l) m = omega (arith, sum_joined l m)

-- a part of a list adds up to no more than the list
pub sum_part : (from n : ℕ) (l : List ℕ) → sum (take n (drop from l)) ≤ sum l
sum_part from n l = omega (
  arith,
  sum_joined (take n (drop from l)) (drop n (drop from l)),
  ap sum (take-append-drop n (drop from l)),
  sum_joined (take from l) (drop from l),
  ap sum (take-append-drop from l),
)

-- the library adds up as the paper does
pub sum_listed : (l : List ℕ) → list_sum l ≡ sum l
unfolding sum
sum_listed l = sym (is_sum_by sum (λ x. x) refl (λ n l. refl) l)

-- the ticks of a task: those of its row; one that has no row has none
pub row_ticks : (ticks i : ℕ) (l : List ℕ) → i < most_tasks → ticks ≡ sum (take (headings * i + headings - headings * i) (drop (headings * i) l))
    → ticks ≡ task_ticks l i
row_ticks ticks i l h p =
    let e : headings * i + headings - headings * i ≡ headings = omega arith in
    rw (lt-ltb i most_tasks h) (p ∙ ap (λ (n : ℕ). sum (take n (drop (headings * i) l))) e)

pub rowless_ticks : (i : ℕ) (l : List ℕ) → most_tasks ≤ i → 0 ≡ task_ticks l i
rowless_ticks i l h = rw (le-ltb i most_tasks h) refl

-- they are among all ticks
pub task_among_all : (i : ℕ) (l : List ℕ) → task_ticks l i ≤ all_ticks l
task_among_all i l = among (ltb i most_tasks)
  where
    among : (b : Bool) → cond b (sum (take headings (drop (headings * i) l))) 0 ≤ sum l
    among true = sum_part (headings * i) headings l
    among false = omega arith

pub among_all : (ticks i : ℕ) (l : List ℕ) → ticks ≡ task_ticks l i → ticks ≤ all_ticks l
among_all ticks i l e = omega (arith, e, task_among_all i l)

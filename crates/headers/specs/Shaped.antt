-- A shape by its numbers: how many message buffers it has at most, and when an image has its size.
use Rattle.std.specs.Prelude.{◌≡◌, List, ℕ, ◌*◌, ◌≤◌, length}
use Rattle.std.proofs.Common.{mul-le-mul_left, mul-le-mul_right, le_trans}
use Rattle.paper.specs.Image.{most_tasks, most_words, offsets, total}
use Rattle.paper.specs.declared.Shape.{Shape}
use Rattle.laws.specs.Layout.{Ranged}
use Rattle.laws.specs.Sound.{Sized, make_sized}

abbrev pub shaped : ℕ → ℕ → ℕ → ℕ → ℕ → List ℕ → ℕ → Shape
shaped n slice ci co cm starts words =
    record { n = n; slice = slice; ci = ci; co = co; cm = cm; starts = starts; words = words }

pub square_small : (n : ℕ) → n ≤ most_tasks → n * n ≤ 256
square_small n h = le_trans (mul-le-mul_right n h) (mul-le-mul_left 16 h)

pub sized_by : (s : Shape) (im : List ℕ) → Ranged s → s.starts ≡ offsets s → total s ≤ most_words → length im ≡ total s → Sized s im
sized_by s im r packed few long =
    make_sized s im
    record { tasks = r.tasks; slice = r.slice; inputs = r.inputs; outputs = r.outputs; messages = r.messages; packed = packed; words = few }
    long

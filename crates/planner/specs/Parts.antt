-- The parts of a plan, and where programs end in it. Assumes nothing.
use Rattle.std.specs.Prelude.{ℕ, ◌+◌, ◌≤◌, Option, Some, None}

-- the words before the pairs and of a pair, the most tasks, the longest program, and the longest plan
abbrev pub leading : ℕ
leading = 5

abbrev pub pair : ℕ
pair = 2

abbrev pub most_tasks : ℕ
most_tasks = 16

abbrev pub most_program : ℕ
most_program = 32715

abbrev pub most_plan : ℕ
most_plan = 523477

-- programs from a place on end after no more than so many words
abbrev pub Ends : ℕ → ℕ → Option ℕ → Type 0
Ends at most (Some next) = (at ≤ next) × (next ≤ at + most)
Ends at most None = Unit {0}

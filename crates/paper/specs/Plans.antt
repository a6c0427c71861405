-- "Plans": N, S, CI, CO, CM, then N pairs, then the programs; and the fresh image.
use Rattle.std.specs.Prelude.{List, [], ◌∷◌, ◌++◌, ℕ, zero, suc, ◌+◌, ◌-◌, ◌*◌, get_or, take, drop, replicate}
use Rattle.paper.specs.Image.{parts, rows, width, start, offsets, header}
use Rattle.paper.specs.declared.Shape.{Shape}
use Rattle.paper.specs.declared.Part.{Part}

-- a plan's first five words: N, S, CI, CO, CM
abbrev pub plan_tasks : List ℕ → ℕ
plan_tasks plan = get_or plan 0 0

-- then N pairs: segment length L, program length P
abbrev pub segment_length : List ℕ → ℕ → ℕ
segment_length plan k = get_or plan (5 + 2 * k) 0

abbrev pub program_length : List ℕ → ℕ → ℕ
program_length plan k = get_or plan (6 + 2 * k) 0

-- then the programs: where the program of task k starts, or for k = N where the plan ends
abbrev pub program_start : List ℕ → ℕ → ℕ
program_start plan zero = 5 + 2 * plan_tasks plan
program_start plan (suc k) = program_start plan k + program_length plan k

abbrev pub program : List ℕ → ℕ → List ℕ
program plan k = take (program_length plan k) (drop (program_start plan k) plan)

-- how many words the segments before that of task k have
abbrev pub segment_words : List ℕ → ℕ → ℕ
segment_words plan zero = 0
segment_words plan (suc k) = segment_words plan k + segment_length plan k

-- the shape that a plan gives
abbrev pub with_starts : Shape → List ℕ → Shape
with_starts s l =
    record { n = s.n; slice = s.slice; ci = s.ci; co = s.co; cm = s.cm; starts = l; words = s.words }

abbrev pub plan_sizes : List ℕ → Shape
plan_sizes plan =
    record {
      n = plan_tasks plan;
      slice = get_or plan 1 0;
      ci = get_or plan 2 0;
      co = get_or plan 3 0;
      cm = get_or plan 4 0;
      starts = [];
      words = segment_words plan (plan_tasks plan);
    }

unfoldable pub plan_shape : List ℕ → Shape
plan_shape plan = with_starts (plan_sizes plan) (offsets (plan_sizes plan))

-- the lists f 0, f 1, .. one after another, n of them
abbrev pub joined : ℕ → (ℕ → List ℕ) → List ℕ
joined zero f = []
joined (suc k) f = joined k f ++ f k

-- a fresh queue: head and tail 0, no word held, slots 0
abbrev pub fresh_queue : ℕ → List ℕ
fresh_queue c = 0 ∷ 0 ∷ 0 ∷ c ∷ replicate c 0

-- a fresh segment: program words followed by zeros
abbrev pub fresh_segment : List ℕ → ℕ → List ℕ
fresh_segment plan k = program plan k ++ replicate (segment_length plan k - program_length plan k) 0

-- row i of each part: clock S, R1 = L, all tasks ready in order 0..N-1, all else 0
abbrev pub fresh_row : Shape → List ℕ → Part → ℕ → List ℕ
fresh_row s plan Part.Header i = header s ++ (s.slice ∷ [])
fresh_row s plan Part.TaskTable i = 0 ∷ segment_length plan i ∷ replicate 7 0
fresh_row s plan Part.ReadyQueue i = 0 ∷ 0 ∷ s.n ∷ s.n ∷ joined s.n (λ k. k ∷ [])
fresh_row s plan Part.StatusTable i = replicate (width s Part.StatusTable) 0
fresh_row s plan Part.InputBuffers i = fresh_queue s.ci
fresh_row s plan Part.OutputBuffers i = fresh_queue s.co
fresh_row s plan Part.MessageBuffers i = fresh_queue s.cm
fresh_row s plan Part.Ports i = replicate (width s Part.Ports) 0
fresh_row s plan Part.SegmentTable i = (start s Part.Segments + segment_words plan i) ∷ segment_length plan i ∷ []
fresh_row s plan Part.Segments i = joined s.n (fresh_segment plan)

-- the fresh image: the rows of each part, the parts in order
abbrev pub fresh_part : Shape → List ℕ → Part → List ℕ
fresh_part s plan p = joined (rows s p) (fresh_row s plan p)

unfoldable pub fresh : List ℕ → List ℕ
fresh plan = joined 10 (λ k. fresh_part (plan_shape plan) plan (get_or parts k Part.Segments))

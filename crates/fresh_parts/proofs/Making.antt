-- Each row and part as it is written is that of the fresh image. Assumes nothing.
use mathlib.Core.Path.{◌≡◌, refl, sym, ap, ◌∙◌}
use mathlib.Core.Bool.{Bool, true}
use mathlib.Core.List.{List, [], ◌∷◌, ◌++◌}
use Prim.Native.Nat.{ℕ, zero, suc, ◌+◌, ◌-◌, ◌*◌, ◌<◌, ◌≤◌}
use native.Mathlib.Numerals.{add-one}
use native.Mathlib.Omega.{arith}
use mir.Syntax.{w16}
use mir.Val.{Fits}
use lib.ListN.{length, get_or, take, drop, replicate, length-take, length-drop, length-replicate}
use lib.Seq.{length-take-le}
use Rattle.paper.specs.Image.{mark, edition, most_words, begin, start, offsets, total, header}
use Rattle.paper.specs.Plans.{plan_tasks, segment_length, program_length, segment_words, program_start, fresh_queue, fresh_segment, fresh_part, plan_shape}
use Rattle.paper.specs.declared.Shape.{Shape}
use Rattle.paper.specs.declared.Part.{Part}
use Rattle.laws.specs.Consecutive.{rising}
use Rattle.laws.specs.Places.{begins_later}
use Rattle.laws.specs.Layout.{total_is, largest_offset}
use Rattle.laws.specs.Fresh.{planned, programs_later, queue_long, segment_long}
use Rattle.plans.specs.Sizes.{Packed}
use Rattle.writes.specs.Written.{written, written_over, kept_length}
use Rattle.writes.specs.Zeroed.{Zeroed, zeros_zeroed, part_zeroed, zeros_after, zeros_around}
use Rattle.fresh_parts.specs.Accepted.{Plan, plan_fit, part_size}
use Rattle.fresh_parts.specs.Writing.{fresh_task}
use Rattle.fresh_parts.proofs.Repeating.{FirstRows, row_more, row_room, row_zeroed}

-- a task and an empty queue are one word among zeros
pub task_in_zeros : (o out : List ℕ) (at l : ℕ) → Zeroed o at (length (fresh_task l)) → out ≡ written o (at + 1) (l ∷ []) → out ≡ written o at (fresh_task l)
task_in_zeros o out at l z e = zeros_around o out at 1 (l ∷ []) 7 z e

pub queue_in_zeros : (o out : List ℕ) (at c v : ℕ) → Zeroed o at (length (fresh_queue c)) → v ≡ c → out ≡ written o (at + 3) (v ∷ [])
    → out ≡ written o at (fresh_queue c)
queue_in_zeros o out at c v z ev e =
    zeros_around o out at 3 (c ∷ []) c (part_zeroed o at _ at _ z (omega arith) (omega (arith, queue_long c))) (rw (← ev) e)

-- a program is followed by zeros where the words after it are 0
pub program_in_zeros : (o out t : List ℕ) (at l : ℕ) → length t ≤ l → (zeroed : Bool) → (zeroed ≡ true → Zeroed o at l) → zeroed ≡ true
    → out ≡ written o at t → out ≡ written o at (t ++ replicate (l - length t) 0)
program_in_zeros o out t at l h zeroed z so e = zeros_after o out at t (l - length t) (part_zeroed o at l at _ (z so) (omega arith) (omega arith)) e

-- what an accepted plan fixes
module _ (s : Shape) (plan : List ℕ) (p : Plan s plan) where
  plan_count : s.n ≡ plan_tasks plan
  unfolding plan_shape
  plan_count = rw p.shape

  pub first_program : 5 + 2 * s.n ≡ program_start plan 0
  first_program = rw plan_count

  -- the bases of the segments are small
  plan_words : s.words ≡ segment_words plan s.n
  unfolding plan_shape
  plan_words = rw p.shape

  pub base_small : (k b : ℕ) → k ≤ s.n → b ≡ start s Part.Segments + segment_words plan k → b ≤ most_words
  base_small k b h e =
      omega (arith, plan_words, rising (segment_words plan) (λ j. omega arith) k s.n h, total_is s, (plan_fit s plan p).words)

  pub first_base : get_or s.starts 8 0 ≡ start s Part.Segments + segment_words plan 0
  first_base = rw (plan_fit s plan p).packed (omega arith)

  -- the segments over zeros
  pub segments_long : length (fresh_part s plan Part.Segments) ≡ s.words
  segments_long = omega (arith, part_size s plan p Part.Segments)

  module _ (o a : List ℕ) (at : ℕ) (ea : a ≡ written o at (replicate s.words 0)) where
    pub zeros_room : at + length (fresh_part s plan Part.Segments) ≤ length o → at + length (fresh_part s plan Part.Segments) ≤ length a
    zeros_room room = omega (arith, kept_length o a at _ ea)

    pub zeros_there : Zeroed a at (length (fresh_part s plan Part.Segments))
    zeros_there = rw segments_long (zeros_zeroed o a at s.words ea)

    pub segments_over : (out : List ℕ) → out ≡ written a at (fresh_part s plan Part.Segments) → out ≡ written o at (fresh_part s plan Part.Segments)
    segments_over out eo = rw (eo, ea) (written_over o at _ _ (length-replicate s.words 0 ∙ sym segments_long))

  -- the segment of task k, by the lengths that were read
  module _ (k l q from : ℕ) (h : k < s.n) (el : l ≡ segment_length plan k) (eq : q ≡ program_length plan k) (ef : from ≡ program_start plan k) where
    program_asks : (q ≤ l) × (from + q ≤ length plan)
    program_asks =
        let r = planned plan p.fine in (
          omega (arith, (r.pairs k (omega (arith, plan_count))).1),
          omega (arith, programs_later plan (suc k) s.n h, r.ends, ap (program_start plan) plan_count),
        )

    -- its program is as long as the plan says
    pub segment_asks : (q ≤ l) × (from + q ≤ length plan) × (length (take (from + q - from) (drop from plan)) ≤ l)
    segment_asks =
        let a = program_asks in
        (a.0, a.1, simp (length-take, length-drop) (omega (arith, a.0)))

    program_is : take (from + q - from) (drop from plan) ≡ take q (drop from plan)
    program_is = let e : from + q - from ≡ q = omega arith in rw e

    program_size : length (take q (drop from plan)) ≡ q
    program_size = length-take-le q (drop from plan) (simp length-drop (omega (arith, program_asks.1)))

    pub next_program : from + q ≡ program_start plan (k + 1)
    next_program = rw (add-one, ef, eq)

    whole : length (fresh_segment plan k) ≡ l
    whole = segment_long plan p.fine k (omega (arith, plan_count)) ∙ sym el

    module _ (o : List ℕ) (at next : ℕ) (out : List ℕ) (r : FirstRows (fresh_segment plan) o at k next out) where
      pub segment_room : at + length (fresh_part s plan Part.Segments) ≤ length o → next + l ≤ length out
      segment_room room = omega (arith, whole, row_room (fresh_segment plan) o at k next out r s.n h room)

      pub segment_zeroed : (zeroed : Bool) → (zeroed ≡ true → Zeroed o at (length (fresh_part s plan Part.Segments))) → zeroed ≡ true → Zeroed out next l
      segment_zeroed zeroed z so = rw (← whole) (row_zeroed (fresh_segment plan) o at k next out r s.n h (z so))

      pub segment_more : (out' : List ℕ) (next' : ℕ)
          → next' ≡ next + l
          → out' ≡ written out next (take (from + q - from) (drop from plan) ++ replicate (l - length (take (from + q - from) (drop from plan))) 0)
          → FirstRows (fresh_segment plan) o at (k + 1) next' out'
      segment_more out' next' en eo =
          row_more (fresh_segment plan) o at k next out r out' (fresh_segment plan k) next' refl
          (omega (arith, whole, en), rw (program_is, program_size, ef, eq, el) at eo)

-- an entry of the segment table, and the next base
module _ (s : Shape) (plan : List ℕ) (k l b : ℕ) (el : l ≡ segment_length plan k) (eb : b ≡ start s Part.Segments + segment_words plan k) where
  pub entry_made : ◌≡◌ {A = List ℕ} (b ∷ l ∷ []) ((start s Part.Segments + segment_words plan k) ∷ segment_length plan k ∷ [])
  entry_made = rw (el, eb)

  pub next_base : b + l ≡ start s Part.Segments + segment_words plan (k + 1)
  next_base = rw (add-one, eb, el) (omega arith)

-- the offsets are the starts of the parts after the header, and small
offset_is : (s : Shape) (k : ℕ) → k < 9 → get_or (offsets s) k 0 ≡ begin s (suc k)
offset_is s zero h = refl
offset_is s (suc zero) h = refl
offset_is s (suc (suc zero)) h = refl
offset_is s (suc (suc (suc zero))) h = refl
offset_is s (suc (suc (suc (suc zero)))) h = refl
offset_is s (suc (suc (suc (suc (suc zero))))) h = refl
offset_is s (suc (suc (suc (suc (suc (suc zero)))))) h = refl
offset_is s (suc (suc (suc (suc (suc (suc (suc zero))))))) h = refl
offset_is s (suc (suc (suc (suc (suc (suc (suc (suc zero)))))))) h = refl
offset_is s (suc (suc (suc (suc (suc (suc (suc (suc (suc k))))))))) h = absurd (omega arith)

pub offset_fits : (s : Shape) → Packed s → (k : ℕ) → k < 9 → Fits w16 (get_or s.starts k 0)
offset_fits s p k h =
    record { fits = rw (p.packed, offset_is s k h) (omega (arith, begins_later s (suc k) 9 h, largest_offset s p.ranged)) }

-- the header as it is written
pub header_made : (s : Shape) (t : ℕ) (o out : List ℕ) → Packed s → t ≡ total s
    → out ≡ written o 0 (mark ∷ edition ∷ s.n ∷ s.slice ∷ s.ci ∷ s.co ∷ s.cm ∷ get_or s.starts 0 0 ∷ get_or s.starts 1 0 ∷
    get_or s.starts 2 0 ∷ get_or s.starts 3 0 ∷ get_or s.starts 4 0 ∷ get_or s.starts 5 0 ∷ get_or s.starts 6 0 ∷ get_or s.starts 7 0 ∷
    get_or s.starts 8 0 ∷ t ∷ s.slice ∷ [])
    → out ≡ written o 0 (header s ++ (s.slice ∷ []))
header_made s t o out p et eo = rw (eo, et, p.packed)

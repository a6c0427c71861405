-- "Numbers that come back": the refusals, their order of tests, and the answers.
use Rattle.std.specs.Prelude.{List, [], ◌∷◌, Bool, not, cond, ◌&&◌, ◌||◌, ℕ, ◌+◌, ◌*◌, eqb, leb, ltb, length, get_or, Err, Ok, Result, ⊤}
use Rattle.paper.specs.Image.{header_words, mark, edition, most_tasks, most_slice, most_capacity, most_words, offsets, total, header_word, shape_of, segment_start, at, base, len}
use Rattle.paper.specs.Plans.{plan_tasks, segment_length, program_length, program_start, plan_shape}
use Rattle.paper.specs.Tests.{every, every_task, rules_hold}
use Rattle.paper.specs.declared.Task.{Task}
use Rattle.paper.specs.declared.Shape.{Shape}
use Rattle.paper.specs.declared.Refusal.{Refusal}
use Rattle.paper.specs.declared.Answer.{Answer}

-- the number of each refusal
abbrev pub number : Refusal → ℕ
number Refusal.TooShort = 1
number Refusal.NotMarked = 2
number Refusal.OutOfRange = 3
number Refusal.NotPacked = 4
number Refusal.WrongSegments = 5
number Refusal.RuleBroken = 6
number Refusal.MalformedEvent = 7
number Refusal.InputFull = 8
number Refusal.PortIdle = 9
number Refusal.BadPlan = 11
number Refusal.WrongTarget = 12
number Refusal.CountFull = 17

-- a check or a build that succeeds returns 0
abbrev pub verdict_number : Result ⊤ Refusal → ℕ
verdict_number (Ok tt) = 0
verdict_number (Err r) = number r

-- a test in its order: refused where it shows a fault, else what the later tests say
abbrev pub refused_if : Bool → Refusal → Result ⊤ Refusal → Result ⊤ Refusal
refused_if b r later = cond b (Err r) later

abbrev pub and_then : Result ⊤ Refusal → Result ⊤ Refusal → Result ⊤ Refusal
and_then (Ok tt) later = later
and_then (Err r) later = Err r

-- 1: image under 18 words
abbrev pub too_short : List ℕ → Bool
too_short im = ltb (length im) header_words

-- 2: mark or edition wrong
abbrev pub not_marked : List ℕ → Bool
not_marked im = not (eqb (header_word im 0) mark && eqb (header_word im 1) edition)

-- 3: N, S or a capacity out of range
abbrev pub within : ℕ → ℕ → ℕ → Bool
within lo hi x = leb lo x && leb x hi

unfoldable pub out_of_range : Shape → Bool
out_of_range s =
    not (within 1 most_tasks s.n && within 1 most_slice s.slice && within 1 most_capacity s.ci &&
    within 1 most_capacity s.co && within 1 most_capacity s.cm)

-- 4: an offset is not the packed one
unfoldable pub not_packed : Shape → Bool
not_packed s = not (every 9 (λ k. eqb (get_or s.starts k 0) (get_or (offsets s) k 0)))

-- 5: a segment's base or length, or T, is wrong, T is over 32768, or the image is not T words
unfoldable pub segment_right : Shape → List ℕ → Task → Bool
segment_right s im i = eqb (at s im (base i)) (segment_start s im i.0) && leb 1 (at s im (len i))

unfoldable pub wrong_segments : Shape → List ℕ → Bool
wrong_segments s im =
    not (eqb (header_word im 16) (total s) && leb (total s) most_words && eqb (length im) (total s) &&
    every_task s (segment_right s im) && eqb (segment_start s im s.n) (total s))

-- 6: another rule of the image is broken. Images are tested 1 to 6
unfoldable pub check : List ℕ → Result ⊤ Refusal
check im =
    refused_if (too_short im) Refusal.TooShort
    (refused_if (not_marked im) Refusal.NotMarked
    (refused_if (out_of_range (shape_of im)) Refusal.OutOfRange
    (refused_if (not_packed (shape_of im)) Refusal.NotPacked
    (refused_if (wrong_segments (shape_of im) im) Refusal.WrongSegments
    (refused_if (not (rules_hold (shape_of im) im)) Refusal.RuleBroken (Ok tt))))))

-- 11: plan under 5 words
abbrev pub plan_short : List ℕ → Bool
plan_short plan = ltb (length plan) 5

-- a pair missing, L = 0, P > L, a program missing or words left over, T over 32768
abbrev pub pair_right : List ℕ → ℕ → Bool
pair_right plan k = leb 1 (segment_length plan k) && leb (program_length plan k) (segment_length plan k)

unfoldable pub plan_broken : List ℕ → Bool
plan_broken plan =
    ltb (length plan) (5 + 2 * plan_tasks plan) || not (every (plan_tasks plan) (pair_right plan)) ||
    not (eqb (length plan) (program_start plan (plan_tasks plan))) || ltb most_words (total (plan_shape plan))

-- a plan: under 5 words (11), then 3, then the rest of 11
unfoldable pub check_plan : List ℕ → Result ⊤ Refusal
check_plan plan =
    refused_if (plan_short plan) Refusal.BadPlan
    (refused_if (out_of_range (plan_shape plan)) Refusal.OutOfRange
    (refused_if (plan_broken plan) Refusal.BadPlan (Ok tt)))

-- 12: target is not T words; tested last
unfoldable pub check_build : List ℕ → List ℕ → Result ⊤ Refusal
check_build plan target =
    and_then (check_plan plan)
    (refused_if (not (eqb (length target) (total (plan_shape plan)))) Refusal.WrongTarget (Ok tt))

-- an accepted event answers (kind, task)
abbrev pub kind : Answer → ℕ
kind Answer.Idle = 0
kind (Answer.ErrorStop i) = 1
kind (Answer.TurnPassed i) = 2
kind (Answer.ServiceDone i) = 3
kind (Answer.ServiceWaits i) = 4
kind (Answer.ServiceFaulted i) = 5
kind (Answer.OrderDone i) = 6
kind (Answer.OrderFaulted i) = 7
kind (Answer.Input i) = 8
kind (Answer.OutputDone i) = 9

-- the idle answer's task is 0
abbrev pub answer_task : Answer → ℕ
answer_task Answer.Idle = 0
answer_task (Answer.ErrorStop i) = i.0
answer_task (Answer.TurnPassed i) = i.0
answer_task (Answer.ServiceDone i) = i.0
answer_task (Answer.ServiceWaits i) = i.0
answer_task (Answer.ServiceFaulted i) = i.0
answer_task (Answer.OrderDone i) = i.0
answer_task (Answer.OrderFaulted i) = i.0
answer_task (Answer.Input i) = i.0
answer_task (Answer.OutputDone i) = i.0

-- an event returns 0 and these two values, or the number of its refusal alone
abbrev pub reply_number : Result Answer Refusal → ℕ
reply_number (Ok a) = 0
reply_number (Err r) = number r

abbrev pub reply_values : Result Answer Refusal → List ℕ
reply_values (Ok a) = kind a ∷ answer_task a ∷ []
reply_values (Err r) = []

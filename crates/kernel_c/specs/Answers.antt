-- A reply in three numbers, of which the paper's own is `reply_number`: the kind and the task, and what stands for both where there is no answer.
use Rattle.std.specs.Prelude.{ℕ, Err, Ok, Result}
use Rattle.paper.specs.Numbers.{kind, answer_task}
use Rattle.paper.specs.declared.Answer.{Answer}
use Rattle.paper.specs.declared.Refusal.{Refusal}

-- the kind and the task of a refused event
abbrev pub no_answer : ℕ
no_answer = 65535

abbrev pub told_kind : Result Answer Refusal → ℕ
told_kind (Ok a) = kind a
told_kind (Err r) = no_answer

abbrev pub told_task : Result Answer Refusal → ℕ
told_task (Ok a) = answer_task a
told_task (Err r) = no_answer

-- The first broken rule in numbers: the check's, then where it is 6 the rule's and what breaks it, else 65535.
use Rattle.std.specs.Prelude.{ℕ, Ok, Err, Result, Option, Some, None}
use Rattle.paper.specs.Numbers.{number}
use Rattle.paper.specs.declared.Queue.{Queue}
use Rattle.paper.specs.declared.Refusal.{Refusal}
use Rattle.breaches.specs.Order.{number_of_rule}
use Rattle.single_rules.specs.declared.Rule.{Rule}
use Rattle.breaches.specs.declared.Subject.{Subject}
use Rattle.kernel_c.specs.Views.{not_there}
use Rattle.kernel_c.specs.declared.broken.BrokenNumbers.{BrokenNumbers}

-- a rule, and what breaks it
abbrev pub rule_told : ℕ → ℕ → ℕ → ℕ → BrokenNumbers
rule_told n q a b = record { number = number Refusal.RuleBroken; rule = n; queue = q; i = a; j = b }

-- a queue by its number: 0 the ready queue, 1 an input buffer, 2 an output buffer, 3 a message buffer; tasks that it has not are 0
abbrev pub queue_told : ℕ → Queue → BrokenNumbers
queue_told n Queue.Ready = rule_told n 0 0 0
queue_told n (Queue.Input i) = rule_told n 1 i.0 0
queue_told n (Queue.Output i) = rule_told n 2 i.0 0
queue_told n (Queue.Message i j) = rule_told n 3 i.0 j.0

-- the clock is told by the rule alone, a task by its number
abbrev pub subject_told : ℕ → Subject → BrokenNumbers
subject_told n Subject.Clock = rule_told n not_there not_there not_there
subject_told n (Subject.Task i) = rule_told n not_there i.0 not_there
subject_told n (Subject.Queue q) = queue_told n q

-- a number with no rule
abbrev pub no_rule : ℕ → BrokenNumbers
no_rule n = record { number = n; rule = not_there; queue = not_there; i = not_there; j = not_there }

abbrev pub broken_numbers : Result (Option (Rule × Subject)) Refusal → BrokenNumbers
broken_numbers (Ok (Some (r, x))) = subject_told (number_of_rule r) x
broken_numbers (Ok None) = no_rule 0
broken_numbers (Err r) = no_rule (number r)

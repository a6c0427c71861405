-- What the exported function that tells the first broken rule promises, from what the call behind it answers. Assumes nothing.
use Rattle.std.specs.Prelude.{Result, Option}
use mathlib.Core.Path.{◌≡◌, ap, ◌∙◌}
use mathlib.Core.List.{List}
use Prim.Native.Nat.{ℕ}
use Rattle.paper.specs.Numbers.{number}
use Rattle.paper.specs.declared.Task.{Task}
use Rattle.paper.specs.declared.Queue.{Queue}
use Rattle.paper.specs.declared.Refusal.{Refusal}
use Rattle.single_rules.specs.declared.Rule.{Rule}
use Rattle.breaches.specs.Order.{number_of_rule}
use Rattle.breaches.specs.Broken.{TellsBroken}
use Rattle.breaches.specs.declared.Subject.{Subject}
use Rattle.kernel_c.specs.Views.{not_there}
use Rattle.kernel_c.specs.Breaches.{rule_told, queue_told, subject_told, no_rule, broken_numbers}
use Rattle.kernel_c.specs.Promises.{TellsBrokenC}
use Rattle.kernel_c.specs.declared.broken.BrokenNumbers.{BrokenNumbers}

-- the call
pub tells_broken : (image : List ℕ) (found : Result (Option (Rule × Subject)) Refusal) (a : BrokenNumbers) → TellsBroken image found → a ≡ broken_numbers found → TellsBrokenC image a
tells_broken image found a p e = record { told = e ∙ ap broken_numbers p.told }

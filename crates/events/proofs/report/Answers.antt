-- Each arm is what the definition gives for its event; the last is left with the malformed ones.
use Rattle.std.proofs.Common.{ℕ}
use mathlib.Core.Path.{◌≡◌, refl}
use mathlib.Core.Logic.{◌≢◌}
use Rattle.paper.specs.declared.Event.{Event}
use Rattle.paper.specs.declared.Task.{Task}
use Rattle.events.proofs.Branches.{input_task, done_task, input_happens, done_happens, malformed_happens}
use borrow.Author.Rules.{rules}
use Rattle.events.proofs.report.Goals as goal

-- what the last arm says: an event that is no tick, no input and no output done is malformed
none_else : (e : Event) → ((t : Task) (c : ℕ) → e ≡ Event.Input t c → ⊥) → ((t : Task) → e ≡ Event.OutputDone t → ⊥) → e ≢ Event.Tick → e ≡ Event.Malformed
none_else Event.Tick a b n = absurd (n refl)
none_else (Event.Input i c) a b n = absurd (a i c refl)
none_else (Event.OutputDone i) a b n = absurd (b i refl)
none_else Event.Malformed a b n = refl

pub input-requires : goal.input-requires
input-requires c = search (input_task, rules)

pub output_done-requires : goal.output_done-requires
output_done-requires c = search (done_task, rules)

pub returns-in-Input : goal.returns-in-Input
returns-in-Input c = search input_happens

pub returns-in-OutputDone : goal.returns-in-OutputDone
returns-in-OutputDone c = search done_happens

pub returns-in_default : goal.returns-in_default
returns-in_default c = malformed_happens _ _ _ (none_else _ c.in_default.not-Input c.in_default.not-OutputDone c.requires.e_nonzero)

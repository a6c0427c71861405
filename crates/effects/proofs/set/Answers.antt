-- The register gets its word, and the row of orders ends just where it is R0.
use Rattle.effects.proofs.Answering.{set_off, set_on}
use borrow.Author.Rules.{rules}
use Rattle.effects.proofs.set.Goals as goal

pub returns-then-a-eq-NEXT_ORDER : goal.returns-then-a-eq-NEXT_ORDER
returns-then-a-eq-NEXT_ORDER c = record { value = search set_off; p_after = search rules }

pub returns : goal.returns
returns c = record { value = search set_on; p_after = search rules }

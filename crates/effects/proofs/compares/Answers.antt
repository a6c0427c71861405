-- The flags become the condition of the two words, and R0 in hand goes one word on.
use Rattle.effects.proofs.Answering.{on_at, written}
use Rattle.effects.proofs.compares.Goals as goal

pub returns : goal.returns
returns c = record { value = search on_at; p_after = search written }

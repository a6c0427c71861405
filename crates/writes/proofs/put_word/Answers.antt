-- The word is written at its place.
use Rattle.writes.specs.Written.{written_one}
use Rattle.writes.proofs.put_word.Goals as goal

pub returns-clause-out_after : goal.returns-clause-out_after
returns-clause-out_after c = written_one _ _ _

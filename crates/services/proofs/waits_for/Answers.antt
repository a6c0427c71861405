-- Both words are read where the definition reads them.
use Rattle.services.proofs.Needs.{tested}
use Rattle.services.proofs.waits_for.Goals as goal

pub returns : goal.returns
returns c = tested _ _ _ _ _ _ _ _ c.get.ensures c.get-2.ensures c.both.ensures

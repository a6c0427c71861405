-- The plan's length, its pairs, the end of its programs and T are tested, each as in the definition.
use Rattle.plans.proofs.Measured.{broken_tested}
use Rattle.plans.proofs.is_broken.Goals as goal

pub returns : goal.returns
returns c = search broken_tested

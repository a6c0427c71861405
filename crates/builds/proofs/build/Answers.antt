-- The number is that of the verdict on the build.
use Rattle.builds.proofs.Answering.{built_numbered}
use Rattle.builds.proofs.build.Goals as goal

pub returns : goal.returns
returns c = search built_numbered

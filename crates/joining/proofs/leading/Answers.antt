-- What is left begins where the number ends.
use Rattle.std.proofs.lemmas.List.{take_rest}
use Rattle.joining.proofs.leading.Goals as goal

pub returns : goal.returns
returns c = (c.in-Number-eq0-default.to, c.in-Number-eq0-default.ensures.inside.1.0, search take_rest)

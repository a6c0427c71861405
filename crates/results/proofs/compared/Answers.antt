-- Two tests tell equal, less and greater apart, and each has the condition of the definition.
use Rattle.results.proofs.Words.{equal_is, less_is, greater_is}
use Rattle.results.proofs.compared.Goals as goal

pub returns-then-x-y : goal.returns-then-x-y
returns-then-x-y c = search equal_is

pub returns-then-x-y-2 : goal.returns-then-x-y-2
returns-then-x-y-2 c = search less_is

pub returns-else-x-y-2 : goal.returns-else-x-y-2
returns-else-x-y-2 c = search greater_is

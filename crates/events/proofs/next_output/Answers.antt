-- The output buffer tells whether the port goes on or idles.
use Rattle.events.proofs.Branches.{port_idles, some_output, port_prints}
use Rattle.events.proofs.next_output.Goals as goal

pub returns-then-empty : goal.returns-then-empty
returns-then-empty c = search port_idles

pub print-requires : goal.print-requires
print-requires c = search some_output

pub returns : goal.returns
returns c = search port_prints

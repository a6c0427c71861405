-- After k words the text stands in front, up to `at`, and nothing past its end is altered.
use lib.ListN.{take}
use Rattle.grammar.specs.Printing.{printed}
use Rattle.packing.specs.Packed.{Placed}
use Rattle.printing.proofs.Reached.{Reached}
use Rattle.printing.proofs.put_words.Given as goal

abbrev pub invariant-loop-k : goal.invariant-loop-k
invariant-loop-k l = Reached l.words l.k l.starts l.at × Placed l.initial.text 0 (take l.at (printed l.words)) l.end l.text

-- k words are written.
use mathlib.Core.Path.{◌≡◌}
use lib.ListN.{take}
use Rattle.writes.specs.Written.{written}
use Rattle.writes.proofs.put_words.Given as goal

abbrev pub invariant-loop-k : goal.invariant-loop-k
invariant-loop-k l = l.out ≡ written l.initial.out l.at (take l.k l.src)

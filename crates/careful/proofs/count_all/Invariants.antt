-- So many events are counted, and the rest of the list is left.
use mathlib.Core.Path.{◌≡◌}
use lib.ListN.{length}
use Rattle.laws.specs.Events.{Lawful}
use Rattle.careful.proofs.Counted.{CountedFrom}
use Rattle.careful.proofs.count_all.Given as goal

abbrev pub invariant-loop-taken : goal.invariant-loop-taken
invariant-loop-taken l = Lawful l.s l.im × CountedFrom l.s l.initial.im l.initial.counts l.events l.taken l.im l.counts × (length l.counts ≡ length l.initial.counts)

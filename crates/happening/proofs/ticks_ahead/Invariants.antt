-- All events passed are ticks; the one where it stops is none, or no event is left.
use Prim.Native.Nat.{◌≤◌}
use Rattle.happening.specs.Ahead.{Ahead}
use Rattle.happening.proofs.ticks_ahead.Given as goal

abbrev pub invariant-loop-to : goal.invariant-loop-to
invariant-loop-to l = Ahead l.events l.from l.to × (l.from ≤ l.to) × (l.to ≤ l.count)

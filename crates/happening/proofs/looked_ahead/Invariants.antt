-- All events passed are ticks: four or eight of them are passed only where all their words are 0.
use Prim.Native.Nat.{◌-◌, ◌≤◌}
use Rattle.happening.specs.Ahead.{Ahead}
use Rattle.happening.proofs.looked_ahead.Given as goal

abbrev pub invariant-loop-to : goal.invariant-loop-to
invariant-loop-to l = Ahead l.events l.from l.to × (l.from ≤ l.to) × (l.to ≤ l.count)

abbrev pub decreases-loop-to : goal.decreases-loop-to
decreases-loop-to l = l.count - l.to

-- All events passed are ticks: four or eight of them are passed only where all their words are 0.
use native.Mathlib.Omega.{arith}
use Rattle.happening.proofs.AllZero.{ahead_none, ahead_four, ahead_eight}
use borrow.Author.Rules.{rules}
use Rattle.happening.proofs.looked_ahead.Goals as goal

pub returns-then-count-from-lt-LOOK : goal.returns-then-count-from-lt-LOOK
returns-then-count-from-lt-LOOK c = record { lower_bound = (omega arith, omega arith); ahead = search ahead_none }

pub returns-then-not-zeros : goal.returns-then-not-zeros
returns-then-not-zeros c = record { lower_bound = (omega arith, omega arith); ahead = search ahead_none }

pub loop-to-init : goal.loop-to-init
loop-to-init c = (search ahead_four, omega arith, omega arith)

pub returns-then-not-zeros-2 : goal.returns-then-not-zeros-2
returns-then-not-zeros-2 c = record { lower_bound = (omega arith, omega arith); ahead = search rules }

pub loop-to-preserved : goal.loop-to-preserved
loop-to-preserved c = (search ahead_eight, omega arith, omega arith)

pub returns : goal.returns
returns c = record { lower_bound = (omega arith, omega arith); ahead = search rules }

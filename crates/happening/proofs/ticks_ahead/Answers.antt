-- All events passed are ticks; the one where it stops is none, or no event is left.
use native.Mathlib.Omega.{arith}
use Rattle.happening.proofs.AllZero.{ahead_one, ahead_all, stops_here, stops_last}
use borrow.Author.Rules.{rules}
use Rattle.happening.proofs.ticks_ahead.Goals as goal

pub loop-to-init : goal.loop-to-init
loop-to-init c = (search rules, search rules, search rules)

pub returns-then-not-zeros : goal.returns-then-not-zeros
returns-then-not-zeros c = record { lower_bound = (omega arith, omega arith); ahead = search rules; stops = search stops_here }

pub loop-to-preserved : goal.loop-to-preserved
loop-to-preserved c = (search ahead_one, omega arith, omega arith)

pub returns : goal.returns
returns c = record { lower_bound = (omega arith, omega arith); ahead = search ahead_all; stops = stops_last _ _ _ (omega arith) }

-- Each byte so far is taken.
use Rattle.std.proofs.Common.{ℕ, ◌≤◌, ◌<◌, true, get_or}
use Rattle.tokens.proofs.end_of.Given as goal

abbrev pub invariant-loop-k : goal.invariant-loop-k
invariant-loop-k g l = (i : ℕ) → l.at ≤ i → i < l.k → goal.F-post g l.taken (get_or l.line i 0) true

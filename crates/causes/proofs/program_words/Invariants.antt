-- 16 programs have no more words than a number holds.
use Prim.Native.Nat.{◌*◌, ◌≤◌}
use Rattle.causes.proofs.program_words.Given as goal

abbrev pub invariant-loop-k : goal.invariant-loop-k
invariant-loop-k l = l.words ≤ 65535 * l.k

-- The lines that are passed are lines `0`.
use Rattle.std.proofs.Common.{◌≡◌, true, ◌+◌, ◌-◌, ◌*◌, length}
use Rattle.paper.specs.Tests.{every}
use Rattle.showing.specs.Zeros.{is_zero_line}
use Rattle.showing.proofs.zeros.zero_lines.Given as goal

abbrev pub invariant-loop-lines : goal.invariant-loop-lines
invariant-loop-lines l = every l.lines (λ k. is_zero_line l.text (length l.text - 2 * (k + 1))) ≡ true

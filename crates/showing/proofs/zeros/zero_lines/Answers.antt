-- The lines that are passed are lines `0`.
use Rattle.std.proofs.Common.{sym, ◌∙◌}
use Rattle.laws.specs.Every.{every_none, every_more}
use Rattle.showing.proofs.zeros.zero_lines.Goals as goal

pub loop-lines-init : goal.loop-lines-init
loop-lines-init c = every_none _

pub loop-lines-preserved : goal.loop-lines-preserved
loop-lines-preserved c =
    every_more _ _ c.loop-lines.invariant (sym c.is_zero_line.ensures ∙ c.if-not-is_zero_line.false)

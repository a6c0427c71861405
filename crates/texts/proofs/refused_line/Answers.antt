-- A refused line lies in its text.
use Rattle.texts.proofs.Laws.{line_within}
use Rattle.texts.proofs.refused_line.Goals as goal

pub line_of-requires : goal.line_of-requires
line_of-requires c = line_within c.args.names c.args.script _ _ c.judge.ensures _ _ c.in-Err.is

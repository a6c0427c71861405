-- The place of the first byte that ends the line, or the end.
use Rattle.std.proofs.Common.{◌∙◌}
use Rattle.reader.proofs.Lines.{line_position}
use Rattle.reader.proofs.first_count.Goals as goal

pub returns : goal.returns
returns c = c.unwrap_or.ensures ∙ rw c.line_end.ensures (line_position c.args.text.now)

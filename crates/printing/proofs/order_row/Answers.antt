-- By the test.
use Rattle.std.proofs.Common.{◌∙◌}
use Rattle.printing.proofs.Counted.{order_tested}
use Rattle.printing.proofs.order_row.Goals as goal

pub returns : goal.returns
returns c = c.from.ensures ∙ order_tested c.args.row

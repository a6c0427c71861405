-- The table has the entry of each high byte at its place, and an entry decodes to its order's shape.
use Rattle.order_table.proofs.Rule.{entry_read, shape_read}
use Rattle.order_table.proofs.entry.Goals as goal

pub returns-clause-value : goal.returns-clause-value
returns-clause-value c = search entry_read

pub returns-clause-result_value : goal.returns-clause-result_value
returns-clause-result_value c = search shape_read

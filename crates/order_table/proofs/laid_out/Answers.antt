-- The constant has the rule, by the test over all of its entries.
use mathlib.Core.Path.{refl}
use Rattle.order_table.proofs.Rule.{table_right}
use Rattle.order_table.proofs.laid_out.Goals as goal

pub returns : goal.returns
returns c = table_right _ refl

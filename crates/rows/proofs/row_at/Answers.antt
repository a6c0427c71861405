-- The table has the rule, by the test over all of its entries.
use Rattle.std.proofs.Common.{refl, ◌∙◌, arith}
use Rattle.grammar.specs.Tokens.{bytes, same}
use Rattle.grammar.specs.Kept.{kept_words}
use Rattle.grammar.specs.Printing.{named_in, named_as}
use Rattle.rows.specs.Rows.{row_from, row_of}
use Rattle.rows.specs.declared.tables.TheConstants.{ROW_TABLE}
use Rattle.rows.proofs.Entries.{rows_right}
use Rattle.rows.proofs.row_at.Goals as goal

pub returns : goal.returns
unfolding row_of row_from bytes same kept_words named_in named_as
returns c = c.from.ensures ∙ rows_right ROW_TABLE refl c.args.k (omega arith)

-- The table has the rule, by the test over all of its entries.
use Rattle.std.proofs.Common.{refl}
use Rattle.grammar.specs.Tokens.{bytes}
use Rattle.grammar.specs.Kept.{kept_words}
use Rattle.rows.specs.Rows.{row_at, front, tail, second, end_b, place, packed}
use Rattle.rows.specs.declared.tables.TheConstants.{ROW_PARTS}
use Rattle.rows.proofs.Entries.{parts_right}
use Rattle.rows.proofs.parts_of.Goals as goal

pub returns : goal.returns
unfolding row_at front tail second end_b place packed bytes kept_words
returns c = parts_right ROW_PARTS (record { form_word = 0; front_bytes = 0; tail_bytes = 0; first_register = 0 }) refl c.args.row c.requires

-- A letter counts its place, and any other byte 27.
use Rattle.std.proofs.Common.{sym, ◌∙◌, rules}
use Rattle.kept.proofs.Laws.{letter_counts, other_counts}
use Rattle.kept.proofs.counts.Goals as goal

pub returns-then-is_ascii_lowercase : goal.returns-then-is_ascii_lowercase
returns-then-is_ascii_lowercase c = c.from.ensures ∙ sym (letter_counts _ (search rules)).0

pub returns-else-is_ascii_lowercase : goal.returns-else-is_ascii_lowercase
returns-else-is_ascii_lowercase c = sym (other_counts _ (search rules))

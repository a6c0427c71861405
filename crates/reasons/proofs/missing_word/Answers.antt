-- An empty table is fit to read texts into.
use mathlib.Core.Path.{refl}
use Rattle.tables.proofs.Laws.{fresh_chained, fresh_headed}
use Rattle.reasons.proofs.missing_word.Goals as goal

pub read_texts-past-requires : goal.read_texts-past-requires
read_texts-past-requires c = record { chained = fresh_chained _ _ _ _ _ _ _ _ refl; headed = fresh_headed _ _ refl }

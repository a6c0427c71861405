-- The entry that follows leads to what is found among those before.
use mathlib.Core.Path.{◌∙◌, ap}
use native.Mathlib.Omega.{arith}
use Rattle.tables.specs.Tables.{bucket}
use Rattle.tables.proofs.Laws.{entries_are_few, next_leads}
use Rattle.tables.proofs.look_before.Goals as goal

pub offset_bounds-nexts-k : goal.offset_bounds-nexts-k
offset_bounds-nexts-k c = omega (arith, entries_are_few _ _ c.requires.chained)

pub bounds-nexts-k : goal.bounds-nexts-k
bounds-nexts-k c = omega (arith, entries_are_few _ _ c.requires.chained)

pub find-requires : goal.find-requires
find-requires c = record { chained = c.requires.chained; links = (next_leads _ _ _ _ c.requires.chained c.requires.k_lt_filled (ap bucket c.requires.word_value)).linked }

pub returns : goal.returns
returns c = c.find.ensures ∙ (next_leads _ _ _ _ c.requires.chained c.requires.k_lt_filled (ap bucket c.requires.word_value)).kept

-- The names are read into an empty table, and the labels into the one that they leave.
use Rattle.texts.proofs.Laws.{names_chained, names_headed, texts_read}
use Rattle.texts.proofs.read_texts.Goals as goal

pub read_labels-filled-requires-clause-chained : goal.read_labels-filled-requires-clause-chained
read_labels-filled-requires-clause-chained c = names_chained _ _ _ _ _ _ _ _ _ c.read_names-past.ensures

pub read_labels-filled-requires-clause-headed : goal.read_labels-filled-requires-clause-headed
read_labels-filled-requires-clause-headed c = names_headed _ _ _ _ _ _ _ _ _ c.read_names-past.ensures

pub returns : goal.returns
returns c = texts_read _ _ _ _ _ _ _ _ _ _ _ _ _ _ _ c.read_names-past.ensures c.read_labels-filled.ensures

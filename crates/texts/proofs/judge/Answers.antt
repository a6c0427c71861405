-- A fresh table is empty; with both texts read into it, the script is judged as in the definition.
use mathlib.Core.Path.{refl}
use Rattle.tables.proofs.Laws.{fresh_chained, fresh_headed}
use Rattle.texts.proofs.Laws.{texts_judged}
use Rattle.texts.proofs.judge.Goals as goal

pub read_texts-split-requires-clause-chained : goal.read_texts-split-requires-clause-chained
read_texts-split-requires-clause-chained c = fresh_chained _ _ _ _ _ _ _ _ refl

pub read_texts-split-requires-clause-headed : goal.read_texts-split-requires-clause-headed
read_texts-split-requires-clause-headed c = fresh_headed _ _ refl

pub returns : goal.returns
returns c = texts_judged _ _ _ _ _ _ _ c.read_texts-split.ensures c.judge_script.ensures

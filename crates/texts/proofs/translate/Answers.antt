-- A fresh table is empty; a refusal stores nothing, and words that are not refused fit the target.
use mathlib.Core.Path.{refl}
use Rattle.tables.proofs.Laws.{fresh_chained, fresh_headed}
use Rattle.texts.proofs.Laws.{refused_translates, fine_translates}
use Rattle.texts.proofs.translate.Goals as goal

pub read_texts-split-requires-clause-chained : goal.read_texts-split-requires-clause-chained
read_texts-split-requires-clause-chained c = fresh_chained _ _ _ _ _ _ _ _ refl

pub read_texts-split-requires-clause-headed : goal.read_texts-split-requires-clause-headed
read_texts-split-requires-clause-headed c = fresh_headed _ _ refl

pub returns-in-Err : goal.returns-in-Err
returns-in-Err c = refused_translates _ _ _ _ _ c.read_texts-split.ensures _ _ c.judge_script.ensures _ _ c.in-Err.is

pub returns-in-Ok : goal.returns-in-Ok
returns-in-Ok c = fine_translates _ _ _ _ _ c.read_texts-split.ensures _ _ c.judge_script.ensures _ _ c.in-Ok.is c.store_words.ensures

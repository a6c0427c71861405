-- Each test that fails shows a word wrong; where none does, head and count tell what the tail must be.
use Rattle.queue_rows.proofs.Leads.{leads_other, leads_high, leads_past, leads_long, leads_done}
use Rattle.queue_rows.proofs.leads_right.Goals as goal

pub returns-then-from-given : goal.returns-then-from-given
returns-then-from-given c = search leads_other

pub returns-then-given-first : goal.returns-then-given-first
returns-then-given-first c = search leads_high

pub returns-then-given-end : goal.returns-then-given-end
returns-then-given-end c = search leads_past

pub returns-then-given-words : goal.returns-then-given-words
returns-then-given-words c = search leads_long

pub returns : goal.returns
returns c = search leads_done

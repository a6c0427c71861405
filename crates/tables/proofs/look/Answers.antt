-- The head of the word's bucket leads to what is found among all entries.
use mathlib.Core.Path.{◌∙◌}
use Rattle.tables.proofs.Laws.{head_leads}
use Rattle.tables.proofs.look.Goals as goal

pub bucket_of-bucket-requires : goal.bucket_of-bucket-requires
bucket_of-bucket-requires c = tt

pub find-requires : goal.find-requires
find-requires c = record { chained = c.requires.chained; links = (head_leads _ _ _ _ _ c.requires.chained c.requires.headed c.bucket_of-bucket.ensures.value).linked }

pub returns : goal.returns
returns c = c.find.ensures ∙ (head_leads _ _ _ _ _ c.requires.chained c.requires.headed c.bucket_of-bucket.ensures.value).kept

-- Each list is written at the count of the entries before, and the head of the bucket is the new entry.
use mathlib.Core.Path.{◌∙◌, ap}
use Rattle.tables.specs.Tables.{bucket}
use Rattle.tables.proofs.Laws.{entry_added}
use Rattle.tables.proofs.insert.Goals as goal

pub word_of-requires : goal.word_of-requires
word_of-requires c = c.requires.count_in_bounds

pub bucket_of-bucket-requires : goal.bucket_of-bucket-requires
bucket_of-bucket-requires c = tt

pub returns : goal.returns
returns c = entry_added _ _ _ _ _ _ _ _ _ _ _ _ _ c.requires.chained c.requires.headed c.requires.filled_lt_most c.requires.count_in_bounds (c.bucket_of-bucket.ensures.value ∙ ap bucket c.word_of.ensures)

-- Word k of a queue lies in the row of the queue's first word, at column k.
use Rattle.laws.specs.Sound.{sized_fit}
use Rattle.queue_rules.proofs.Held.{word_found, word_got}
use Rattle.queue_rules.proofs.queue_word.Goals as goal

pub head_of-requires : goal.head_of-requires
head_of-requires c = search sized_fit

pub word_of-requires : goal.word_of-requires
word_of-requires c = search word_found

pub returns : goal.returns
returns c = search word_got

-- A queue obeys the rules just where its four leading words are right for the header's capacity.
use Rattle.laws.specs.Cells.{in_lead}
use Rattle.queue_rules.proofs.Held.{queued_tested}
use Rattle.queue_rules.proofs.queued.Goals as goal

pub queue_word-head-requires : goal.queue_word-head-requires
queue_word-head-requires c = search in_lead

pub queue_word-tail-requires : goal.queue_word-tail-requires
queue_word-tail-requires c = search in_lead

pub queue_word-count-requires : goal.queue_word-count-requires
queue_word-count-requires c = search in_lead

pub queue_word-capacity-requires : goal.queue_word-capacity-requires
queue_word-capacity-requires c = search in_lead

pub returns : goal.returns
returns c = search queued_tested

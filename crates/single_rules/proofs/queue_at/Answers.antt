-- Whether the queue is the ready queue, an input buffer or an output buffer is tested; else it is a message buffer.
use Rattle.single_rules.proofs.Tested.{queue_ready, queue_input, queue_output, from_word, to_word, queue_message}
use Rattle.single_rules.proofs.queue_at.Goals as goal

pub returns-then-k-eq0 : goal.returns-then-k-eq0
returns-then-k-eq0 c = queue_ready _ c.requires.fit _ c.requires.k_bound c.if-k-eq0.true

pub returns-then-buffer-s : goal.returns-then-buffer-s
returns-then-buffer-s c = queue_input _ c.requires.fit _ c.requires.k_bound c.if-k-eq0.false c.if-buffer-s.true

pub returns-then-other-s : goal.returns-then-other-s
returns-then-other-s c = queue_output _ c.requires.fit _ c.requires.k_bound c.if-k-eq0.false c.if-buffer-s.false c.if-other-s.true

pub overflow_cast-from : goal.overflow_cast-from
overflow_cast-from c = search from_word

pub overflow_cast-to : goal.overflow_cast-to
overflow_cast-to c = search to_word

pub returns : goal.returns
returns c = queue_message _ c.requires.fit _ c.requires.k_bound c.if-k-eq0.false c.if-buffer-s.false c.if-other-s.false

-- A line gives what its first token says, and a word what it is kept for.
use Rattle.phrases.proofs.Laws.{order_small}
use Rattle.phrases.proofs.given.Goals as goal

pub order-requires-clause-word_lt_order_end : goal.order-requires-clause-word_lt_order_end
order-requires-clause-word_lt_order_end c = order_small _ _ _ _ c.kept.ensures c.in-Order.is

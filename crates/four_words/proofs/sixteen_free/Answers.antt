-- Four times four words.
use Rattle.four_words.proofs.Many.{sieved_sixteen}
use Rattle.four_words.proofs.sixteen_free.Goals as goal

pub returns : goal.returns
returns c = sieved_sixteen _ _ _ _ _ _ _ _ _ c.four_free.ensures c.four_free-2.ensures c.four_free-3.ensures c.four_free-4.ensures

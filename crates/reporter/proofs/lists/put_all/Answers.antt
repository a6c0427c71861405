-- The words of some bytes lie in their target.
use Rattle.reporter.proofs.Few.{words_counted}
use Rattle.reporter.proofs.lists.put_all.Goals as goal

pub returns : goal.returns
returns c = words_counted _ _ _ _ c.requires c.put_words.ensures.value c.put_words.ensures.words_after

-- The words are those of the header and the clock, and each is small enough for a word.
use mathlib.Core.Path.{◌∙◌}
use native.Mathlib.Omega.{arith}
use lib.Dec.{lit<}
use Rattle.fresh_parts.proofs.Making.{offset_fits, header_made}
use Rattle.fresh_parts.proofs.put_header.Goals as goal

pub overflow_cast-words-5 : goal.overflow_cast-words-5
overflow_cast-words-5 c = search (offset_fits, lit<)

pub overflow_cast-words-6 : goal.overflow_cast-words-6
overflow_cast-words-6 c = search (offset_fits, lit<)

pub overflow_cast-words-7 : goal.overflow_cast-words-7
overflow_cast-words-7 c = search (offset_fits, lit<)

pub overflow_cast-words-8 : goal.overflow_cast-words-8
overflow_cast-words-8 c = search (offset_fits, lit<)

pub overflow_cast-words-9 : goal.overflow_cast-words-9
overflow_cast-words-9 c = search (offset_fits, lit<)

pub overflow_cast-words-10 : goal.overflow_cast-words-10
overflow_cast-words-10 c = search (offset_fits, lit<)

pub overflow_cast-words-11 : goal.overflow_cast-words-11
overflow_cast-words-11 c = search (offset_fits, lit<)

pub overflow_cast-words-12 : goal.overflow_cast-words-12
overflow_cast-words-12 c = search (offset_fits, lit<)

pub overflow_cast-words-13 : goal.overflow_cast-words-13
overflow_cast-words-13 c = search (offset_fits, lit<)

pub returns : goal.returns
returns c = (c.put_words.ensures.value ∙ omega arith, header_made _ _ _ _ c.requires.packed c.total_of-t.ensures c.put_words.ensures.out_after)

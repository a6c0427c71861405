-- The words that were kept lie in the buffer.
use Rattle.disk.proofs.Bytes.{words_room, words_in_buffer}
use borrow.Author.Rules.{rules}
use Rattle.disk.proofs.reading.load_first_words.Goals as goal

pub slice_bounds-put_even-end : goal.slice_bounds-put_even-end
slice_bounds-put_even-end c = c.in_ok-start.ensures.0

pub slice_bounds-put_even-end-2 : goal.slice_bounds-put_even-end-2
slice_bounds-put_even-end-2 c = c.in_ok-start.ensures.1.0

pub put_even-requires : goal.put_even-requires
put_even-requires c = search (rules, words_room)

pub returns : goal.returns
returns c = search (rules, words_in_buffer)

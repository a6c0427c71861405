-- The words stand at the front of their buffer, and these alone are lent for the verdict on the file.
use mathlib.Core.Path.{sym}
use lib.Seq.{length-take-le}
use Rattle.files.proofs.Reading.{few_bytes, words_inside, words_taken, plan_read}
use Rattle.files.proofs.read_plan.Goals as goal

pub slice_bounds-bytes-end : goal.slice_bounds-bytes-end
slice_bounds-bytes-end c = sym (length-take-le _ _ c.requires.found_in_bounds)

pub put_words-count-requires : goal.put_words-count-requires
put_words-count-requires c = few_bytes c.args.buffer.now c.args.found c.args.words.now c.requires.found_in_bounds c.requires.buffer_len_bound

pub slice_bounds-file_verdict-end : goal.slice_bounds-file_verdict-end
slice_bounds-file_verdict-end c = words_inside _ _ _ _ _ c.requires.found_in_bounds c.requires.buffer_len_bound c.put_words-count.ensures.value c.put_words-count.ensures.words_after

pub slice_bounds-file_verdict-end-2 : goal.slice_bounds-file_verdict-end-2
slice_bounds-file_verdict-end-2 c = sym (length-take-le _ _ (words_inside _ _ _ _ _ c.requires.found_in_bounds c.requires.buffer_len_bound c.put_words-count.ensures.value c.put_words-count.ensures.words_after))

pub file_verdict-verdict-requires : goal.file_verdict-verdict-requires
file_verdict-verdict-requires c = words_taken _ _ _ _ _ c.requires.found_in_bounds c.requires.buffer_len_bound c.put_words-count.ensures.value c.put_words-count.ensures.words_after

pub returns : goal.returns
returns c = plan_read _ _ _ _ _ c.requires.found_in_bounds c.requires.buffer_len_bound c.put_words-count.ensures.value c.put_words-count.ensures.words_after _ _ c.requires.enough_in_bounds c.file_verdict-verdict.ensures.decides c.file_verdict-verdict.ensures.words_value

-- T must reach the segments, be small enough and be the image's length; then the segments decide.
use Rattle.headers.proofs.Tested.{before_first, too_large, not_its_length, has_size, segments_tested}
use Rattle.headers.proofs.wrong_segments.Goals as goal

pub returns-then-total-header_word : goal.returns-then-total-header_word
returns-then-total-header_word c = search before_first

pub returns-then-total-gt-MOST_WORDS : goal.returns-then-total-gt-MOST_WORDS
returns-then-total-gt-MOST_WORDS c = search too_large

pub returns-then-im-total : goal.returns-then-im-total
returns-then-im-total c = search not_its_length

pub segments_right-requires : goal.segments_right-requires
segments_right-requires c = search has_size

pub returns : goal.returns
returns c = search segments_tested

-- The first test that fails gives the refusal, and each that passes gives what the next one needs.
use Rattle.std.proofs.Common.{rules}
use Rattle.paper.specs.Numbers.{check}
use Rattle.inspect.proofs.Tested.{ranged_so, sized_so}
use Rattle.inspect.proofs.good_shape.Goals as goal

pub returns-then-im-lt-HEADER_WORDS : goal.returns-then-im-lt-HEADER_WORDS
unfolding check
returns-then-im-lt-HEADER_WORDS c = search rules

pub returns-then-not-marked : goal.returns-then-not-marked
unfolding check
returns-then-not-marked c = search rules

pub returns-then-out_of_range : goal.returns-then-out_of_range
unfolding check
returns-then-out_of_range c = search rules

pub not_packed-requires : goal.not_packed-requires
not_packed-requires c = search ranged_so

pub returns-then-not_packed : goal.returns-then-not_packed
unfolding check
returns-then-not_packed c = search rules

pub wrong_segments-requires-clause-ranged : goal.wrong_segments-requires-clause-ranged
wrong_segments-requires-clause-ranged c = search ranged_so

pub returns-then-wrong_segments : goal.returns-then-wrong_segments
unfolding check
returns-then-wrong_segments c = search rules

pub rules_hold-requires : goal.rules_hold-requires
rules_hold-requires c = search sized_so

pub returns-then-not-rules_hold : goal.returns-then-not-rules_hold
unfolding check
returns-then-not-rules_hold c = search rules

pub returns : goal.returns
unfolding check
returns c = search rules

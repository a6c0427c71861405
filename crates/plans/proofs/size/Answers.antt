-- The tests are the definition's, in its order; past them the answer is T, the segments' start with their words.
use native.Mathlib.Omega.{arith}
use Rattle.std.proofs.Common.{true, refl, sym}
use Rattle.plans.proofs.Measured.{short_so, range_so, range_inside, few_sizes, sum_small, total_planned, broken_so, pairs_broken, size_so}
use borrow.Author.Rules.{rules}
use Rattle.plans.proofs.size.Goals as goal

pub returns-then-plan-lt-LEADING_WORDS : goal.returns-then-plan-lt-LEADING_WORDS
returns-then-plan-lt-LEADING_WORDS c = search short_so

pub returns-then-out_of_range : goal.returns-then-out_of_range
returns-then-out_of_range c = search range_so

pub add_up-requires : goal.add_up-requires
add_up-requires c =
    let few = few_sizes _ _ _ c.sizes_of-sizes.ensures c.out_of_range.ensures c.if-out_of_range.false in
    record { n_le_most_tasks = few.0; n_value = few.1 }

pub first_segment-requires : goal.first_segment-requires
first_segment-requires c = search range_inside

pub overflow_add-whole : goal.overflow_add-whole
overflow_add-whole c = omega (arith, sum_small _ _ _ _ _ _ _ c.out_of_range.ensures c.if-out_of_range.false c.first_segment.ensures c.in-Some.ensures)

pub is_broken-requires : goal.is_broken-requires
is_broken-requires c = record { n_le_most_tasks = few_sizes _ _ _ c.sizes_of-sizes.ensures c.out_of_range.ensures c.if-out_of_range.false; summed = search rules; whole_value = total_planned _ _ _ _ _ _ c.sizes_of-sizes.ensures c.first_segment.ensures c.in-Some.ensures }

pub returns-then-is_broken : goal.returns-then-is_broken
returns-then-is_broken c = search broken_so

pub returns-in_default : goal.returns-in_default
returns-in_default c =
    let z = c.sizes_of-sizes.ensures in
    broken_so _ c.if-plan-lt-LEADING_WORDS.false _ z _ c.out_of_range.ensures c.if-out_of_range.false true
    (sym (pairs_broken _ _ z.tasks c.in_default.ensures)) refl

pub returns : goal.returns
returns c =
    let t = total_planned _ _ _ _ _ _ c.sizes_of-sizes.ensures c.first_segment.ensures c.in-Some.ensures in
    search size_so

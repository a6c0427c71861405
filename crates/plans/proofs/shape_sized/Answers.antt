-- The segments of an accepted plan have as many words as T is past their start.
use Rattle.plans.specs.Sizes.{fine_ranged}
use Rattle.plans.proofs.Measured.{sizes_ranged, first_inside, words_left}
use Rattle.plans.proofs.shape_sized.Goals as goal

pub first_segment-first-requires : goal.first_segment-first-requires
first_segment-first-requires c = search (sizes_ranged, fine_ranged)

pub overflow_sub-whole : goal.overflow_sub-whole
overflow_sub-whole c = search first_inside

pub shape_with-requires : goal.shape_with-requires
shape_with-requires c =
    let p = c.requires in
    record { ranged = search fine_ranged; words_value = words_left _ _ _ _ c.sizes_of.ensures c.first_segment-first.ensures p.plan_value p.whole_value }

-- Each round takes one tick or a row of orders of the first task, until nobody is ready or all have passed.
use mathlib.Core.Path.{sym, ◌∙◌}
use native.Mathlib.Omega.{arith}
use Rattle.std.proofs.lemmas.Bool.{not_from_false, not_from_true}
use Rattle.ticks.proofs.Tallying.{idle_counted, now_long, now_ledger, now_room}
use Rattle.ticks.proofs.Telling.{told_some, told_idle, left_answer, goes_none, goes_as, goes_on, goes_all, goes_idle}
use Rattle.ticks.proofs.Needs.{lawful_sound, first_rowed, first_still}
use borrow.Author.Rules.{rules}
use Rattle.ticks.proofs.ticks.Goals as goal

pub empty-requires : goal.empty-requires
empty-requires c = search (lawful_sound, rules)

pub note-requires : goal.note-requires
note-requires c = record { ledger = c.requires.ledger; k_lt_all_counts = omega arith; room = c.requires.room }

pub returns-then-empty : goal.returns-then-empty
returns-then-empty c =
    let none = sym c.empty.ensures ∙ c.if-empty.true in
    record { counts_after = idle_counted _ _ none _ _ _ c.note.ensures; told = told_idle _ _ _ none (omega arith); lawful_2 = search rules }

pub first_seat-x-requires : goal.first_seat-x-requires
first_seat-x-requires c = record { lawful = search rules; im_value = sym c.empty.ensures ∙ c.if-empty.false }

pub loop-taken-init : goal.loop-taken-init
loop-taken-init c = (search goes_none, search rules)

pub go_on-gone-requires : goal.go_on-gone-requires
go_on-gone-requires c = record { lawful = c.loop-taken.invariant.0.law; order_table = search rules; first = c.loop-taken.invariant.1; most_nonzero = omega arith; ledger = now_ledger _ _ _ _ _ c.loop-taken.invariant.0.counted c.requires.ledger; room = now_room _ _ _ _ _ c.loop-taken.invariant.0.counted _ c.requires.room (omega arith) }

pub overflow_add-taken : goal.overflow_add-taken
overflow_add-taken c = omega (arith, (goes_on _ _ _ _ _ _ _ _ c.loop-taken.invariant.0 _ _ _ _ c.go_on-gone.ensures.told c.go_on-gone.ensures.taken_le_most c.go_on-gone.ensures.counts_after).few)

pub empty-requires-then-not-stays : goal.empty-requires-then-not-stays
empty-requires-then-not-stays c = record { sound = lawful_sound _ _ (goes_on _ _ _ _ _ _ _ _ c.loop-taken.invariant.0 _ _ _ _ c.go_on-gone.ensures.told c.go_on-gone.ensures.taken_le_most c.go_on-gone.ensures.counts_after).law; has = search rules }

pub note-requires-then-taken-n : goal.note-requires-then-taken-n
note-requires-then-taken-n c =
    let e = (goes_on _ _ _ _ _ _ _ _ c.loop-taken.invariant.0 _ _ _ _ c.go_on-gone.ensures.told c.go_on-gone.ensures.taken_le_most c.go_on-gone.ensures.counts_after).counted in
    record { ledger = now_ledger _ _ _ _ _ e c.requires.ledger; k_lt_all_counts = omega arith; room = now_room _ _ _ _ _ e _ c.requires.room (omega arith) }

pub shape_of-im-then-taken-n : goal.shape_of-im-then-taken-n
shape_of-im-then-taken-n c = (goes_on _ _ _ _ _ _ _ _ c.loop-taken.invariant.0 _ _ _ _ c.go_on-gone.ensures.told c.go_on-gone.ensures.taken_le_most c.go_on-gone.ensures.counts_after).long

pub shape_of-counts-then-taken-n : goal.shape_of-counts-then-taken-n
shape_of-counts-then-taken-n c = now_long _ _ _ _ _ (goes_idle _ _ _ _ _ _ _ _ (goes_on _ _ _ _ _ _ _ _ c.loop-taken.invariant.0 _ _ _ _ c.go_on-gone.ensures.told c.go_on-gone.ensures.taken_le_most c.go_on-gone.ensures.counts_after) (omega arith) _ c.empty-then-not-stays.ensures c.if-empty-2.true _ c.note-then-taken-n.ensures).0

pub returns-then-taken-n : goal.returns-then-taken-n
returns-then-taken-n c =
    let w = goes_on _ _ _ _ _ _ _ _ c.loop-taken.invariant.0 _ _ _ _ c.go_on-gone.ensures.told c.go_on-gone.ensures.taken_le_most c.go_on-gone.ensures.counts_after in
    let rest = goes_idle _ _ _ _ _ _ _ _ w (omega arith) _ c.empty-then-not-stays.ensures c.if-empty-2.true _ c.note-then-taken-n.ensures in
    record { counts_after = rest.0; told = rest.1; lawful_2 = w.law }

pub told-requires : goal.told-requires
told-requires c = record { lawful = (goes_on _ _ _ _ _ _ _ _ c.loop-taken.invariant.0 _ _ _ _ c.go_on-gone.ensures.told c.go_on-gone.ensures.taken_le_most c.go_on-gone.ensures.counts_after).law; rowed = first_rowed _ _ _ c.loop-taken.invariant.1 }

pub shape_of-im-then-empty-2 : goal.shape_of-im-then-empty-2
shape_of-im-then-empty-2 c = (goes_on _ _ _ _ _ _ _ _ c.loop-taken.invariant.0 _ _ _ _ c.go_on-gone.ensures.told c.go_on-gone.ensures.taken_le_most c.go_on-gone.ensures.counts_after).long

pub shape_of-counts-then-empty-2 : goal.shape_of-counts-then-empty-2
shape_of-counts-then-empty-2 c = now_long _ _ _ _ _ (goes_on _ _ _ _ _ _ _ _ c.loop-taken.invariant.0 _ _ _ _ c.go_on-gone.ensures.told c.go_on-gone.ensures.taken_le_most c.go_on-gone.ensures.counts_after).counted

pub returns-then-empty-2 : goal.returns-then-empty-2
returns-then-empty-2 c =
    let w = goes_on _ _ _ _ _ _ _ _ c.loop-taken.invariant.0 _ _ _ _ c.go_on-gone.ensures.told c.go_on-gone.ensures.taken_le_most c.go_on-gone.ensures.counts_after in
    let all = goes_all _ _ _ _ _ _ _ _ w (omega arith) (omega arith) _ c.told.ensures in
    record { counts_after = all.0; told = all.1; lawful_2 = w.law }

pub first_seat-x-requires-then-not-stays : goal.first_seat-x-requires-then-not-stays
first_seat-x-requires-then-not-stays c = record { lawful = (goes_on _ _ _ _ _ _ _ _ c.loop-taken.invariant.0 _ _ _ _ c.go_on-gone.ensures.told c.go_on-gone.ensures.taken_le_most c.go_on-gone.ensures.counts_after).law; im_value = sym c.empty-then-not-stays.ensures ∙ c.if-empty-2.false }

pub loop-taken-smaller-then-not-stays : goal.loop-taken-smaller-then-not-stays
loop-taken-smaller-then-not-stays c = omega (arith, told_some _ _ _ _ _ c.go_on-gone.ensures.told)

pub loop-taken-preserved-then-not-stays : goal.loop-taken-preserved-then-not-stays
loop-taken-preserved-then-not-stays c = (goes_as _ _ _ _ _ _ _ _ (goes_on _ _ _ _ _ _ _ _ c.loop-taken.invariant.0 _ _ _ _ c.go_on-gone.ensures.told c.go_on-gone.ensures.taken_le_most c.go_on-gone.ensures.counts_after) _ (left_answer _ _ _ _ _ _ c.stays.ensures (not_from_false _ c.if-not-stays.true)), search rules)

pub loop-taken-smaller : goal.loop-taken-smaller
loop-taken-smaller c = omega (arith, told_some _ _ _ _ _ c.go_on-gone.ensures.told)

pub loop-taken-preserved : goal.loop-taken-preserved
loop-taken-preserved c = (goes_on _ _ _ _ _ _ _ _ c.loop-taken.invariant.0 _ _ _ _ c.go_on-gone.ensures.told c.go_on-gone.ensures.taken_le_most c.go_on-gone.ensures.counts_after, first_still _ _ _ _ _ c.go_on-gone.ensures.first_if c.stays.ensures (not_from_true _ c.if-not-stays.false))

pub told-requires-2 : goal.told-requires-2
told-requires-2 c = record { lawful = c.loop-taken.invariant.0.law; rowed = first_rowed _ _ _ c.loop-taken.invariant.1 }

pub shape_of-im : goal.shape_of-im
shape_of-im c = c.loop-taken.invariant.0.long

pub shape_of-counts : goal.shape_of-counts
shape_of-counts c = now_long _ _ _ _ _ c.loop-taken.invariant.0.counted

pub returns : goal.returns
returns c =
    let all = goes_all _ _ _ _ _ _ _ _ c.loop-taken.invariant.0 (omega arith) (omega arith) _ c.told-2.ensures in
    record { counts_after = all.0; told = all.1; lawful_2 = c.loop-taken.invariant.0.law }

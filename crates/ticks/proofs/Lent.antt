-- The part of an image that is lent: from the first task's row on. Orders in a row there are ticks. Assumes nothing.
use mathlib.Core.Path.{◌≡◌, sym, ap, ◌∙◌}
use mathlib.Core.List.{List, ◌++◌, append-nil}
use mathlib.Core.Bool.{Bool, false, cond}
use Prim.Native.Nat.{ℕ, zero, suc, ◌+◌, ◌-◌, ◌<◌, ◌≤◌}
use native.Mathlib.Omega.{arith}
use borrow.Author.Tests.{eq-eqb}
use lib.Dec.{eqb}
use lib.ListN.{length, get_or, take, drop, take-append-drop, length-drop, drop_of_length-le}
use lib.Seq.{length-take-le, take_all}
use Rattle.paper.specs.Image.{cell, place, at, put, clock, reg, flags, base, len}
use Rattle.paper.specs.Queues.{first, empty}
use Rattle.paper.specs.Flags.{error_of}
use Rattle.paper.specs.Machines.{Machine, Lies, lies, own}
use Rattle.paper.specs.Orders.{after, order, order_answer}
use Rattle.paper.specs.Events.{tick}
use Rattle.paper.specs.Counts.{tally, count_place, grown, counted}
use Rattle.paper.specs.declared.Task.{Task}
use Rattle.paper.specs.declared.Place.{Place}
use Rattle.paper.specs.declared.Shape.{Shape}
use Rattle.paper.specs.declared.Part.{Part}
use Rattle.paper.specs.declared.Queue.{Queue}
use Rattle.paper.specs.declared.Heading.{Heading}
use Rattle.paper.specs.declared.Answer.{Answer}
use Rattle.own.specs.Machines.{past_others}
use Rattle.laws.specs.Sound.{Sound, sound}
use Rattle.laws.specs.Effects.{answer_told}
use Rattle.laws.specs.Orders.{lies_apart, own_flags}
use Rattle.laws.specs.Agree.{own_after}
use Rattle.effects.specs.Parts.{Lent}
use Rattle.machine.specs.InRow.{part_after, row_length}
use Rattle.machine.specs.RowLength.{row_some, row_few, row_quiet}
use Rattle.ticks.specs.Seated.{Sits, Seated, First, part_of}
use Rattle.ticks.proofs.Row.{row_part, row_flags, in_a_row, row_sound, row_table}
use Rattle.ticks.proofs.Ticked.{ticks_row, row_told, past_clock, row_held, row_leads}
use Rattle.ticks.proofs.Tallying.{last_counted}
use Rattle.ticks.specs.Ticks.{ticked, Told}
use Rattle.ticks.specs.Rounds.{by_flags}
use Rattle.ticks.specs.Tallied.{tallied, RowCounted}
use Rattle.counting.specs.Growing.{grown_none, grown_twice}
use Rattle.ticks.specs.declared.Seat.{Seat}

-- a list with other words from a place on
abbrev with_part : ℕ → List ℕ → List ℕ → List ℕ
with_part r im l = take r im ++ (l ++ drop (length im - r) (drop r im))

part_is : (r : ℕ) (im : List ℕ) → part_of r im ≡ drop r im
part_is r im = take_all (length im - r) (drop r im) (omega (arith, length-drop r im))

part_back : (r : ℕ) (im l : List ℕ) → with_part r im l ≡ take r im ++ l
part_back r im l =
    let none = drop_of_length-le (drop r im) {i = length im - r} (omega (arith, length-drop r im)) in
    ap (λ (z : List ℕ). take r im ++ z) (ap (λ (z : List ℕ). l ++ z) none ∙ append-nil l)

-- of a sound image, from the row of its first task on
module _ (s : Shape) (im : List ℕ) (x : Seat) (h : Sound s im) (f : First s im x) where
  abbrev t : Task
  t = x.row.task

  abbrev r : ℕ
  r = x.row.place.0

  abbrev xs : List ℕ
  xs = take r im

  sits : Sits s im x
  unfolding First Seated
  sits = f.seated

  some : empty s im Queue.Ready ≡ false
  unfolding First
  some = f.some

  named : first s im Queue.Ready ≡ t.0
  unfolding First
  named = f.named

  starts : (place s (reg t 0)).0 ≡ r
  starts = ap (λ (p : Place). p.0) (sym sits.rowed.placed)

  abbrev lying : ℕ → ℕ → ℕ → Lies
  lying a b n = record { row = a; base = b; length = n }

  -- it lies within the image
  pub row_within : r ≤ length im
  row_within =
      let l = lies_apart s im t sits.rowed.known (sound h).laid in
      omega (arith, starts, l)

  pub row_small : r ≤ 32768
  row_small = omega (arith, row_within, (sound h).laid.words, (sound h).laid.fit.words)

  long : length xs ≡ r
  long = length-take-le r im row_within

  joined : xs ++ part_of r im ≡ im
  joined = ap (λ (z : List ℕ). xs ++ z) (part_is r im) ∙ take-append-drop r im

  there : lies s im t ≡ past_others xs x.segment.from (x.segment.to - x.segment.from)
  there =
      let a : (place s (reg t 0)).0 ≡ length xs = starts ∙ sym long in
      let b : at s im (base t) ≡ length xs + x.segment.from = omega (arith, long, sits.based) in
      let n : at s im (len t) ≡ x.segment.to - x.segment.from = omega (arith, sits.ends) in
      let e : lying (place s (reg t 0)).0 (at s im (base t)) (at s im (len t))
      ≡ lying (length xs) (length xs + x.segment.from) (x.segment.to - x.segment.from) = cc (a, b, n) in
      e

  -- what is lent holds the row, and further on the segment
  pub part_lent : Lent x.segment (part_of r im)
  unfolding Lent
  part_lent =
      let l = lies_apart s im t sits.rowed.known (sound h).laid in
      let some = (sound h).laid.lengths t sits.rowed.known in
      let whole : length (part_of r im) ≡ length im - r = ap length (part_is r im) ∙ length-drop r im in
      let small = (sound h).laid.fit.words in
      (omega (arith, starts, l, sits.based), omega (arith, some, sits.ends), omega (arith, whole, l, starts, sits.based, sits.ends), omega (arith, l, small, (sound h).laid.words, sits.based, sits.ends))

  pub part_calm : at s im (flags t) < 4 → get_or (part_of r im) 8 0 < 4
  part_calm low = rw (← row_flags s im t h sits.rowed.known x.segment xs (part_of r im) joined there 0) low

  -- the flags after an order tell its answer
  row_answer : (k : ℕ) → at s (in_a_row s im t k) (flags t) < 4
      → order_answer t (order s (in_a_row s im t k) t) ≡ cond (eqb (error_of (at s (in_a_row s im t (suc k)) (flags t))) 0) (Answer.OrderDone t) (Answer.OrderFaulted t)
  row_answer k low =
      let m = in_a_row s im t k in
      let laid = (sound (row_sound s im t h sits.rowed.known k)).laid in
      let none : error_of (own s m t).flags ≡ 0 = omega (arith, own_flags s m t, low) in
      let e : at s (in_a_row s im t (suc k)) (flags t) ≡ (after (own s m t) (order s m t)).flags =
      own_flags s _ t ∙ ap (λ (z : Machine). z.flags) (own_after s m t sits.rowed.known laid (order s m t)) in
      rw e (answer_told (own s m t) none t)

  -- the image with the part after n orders in its place
  module _ (n : ℕ) (p : List ℕ) (ep : p ≡ part_after x.segment (part_of r im) n) where
    back : with_part r im p ≡ in_a_row s im t n
    back = part_back r im p ∙ rw ep (sym (row_part s im t h sits.rowed.known x.segment xs (part_of r im) joined there n))

    pub back_sound : Sound s (with_part r im p)
    back_sound = rw back (row_sound s im t h sits.rowed.known n)

    -- and with the clock written
    module _ (d : ℕ) (out : List ℕ) (eo : out ≡ put s (with_part r im p) clock d) where
      out_is : out ≡ put s (in_a_row s im t n) clock d
      out_is = rw (← back) eo

      table_kept : (k : ℕ) → k < 2 → at s out (cell Part.SegmentTable t.0 k) ≡ at s im (cell Part.SegmentTable t.0 k)
      table_kept k hk =
          rw out_is (past_clock s (in_a_row s im t n) d (cell Part.SegmentTable t.0 k) (sits.rowed.known, hk) tt ∙ row_table s im t h sits.rowed.known n k hk)

      pub orders_first : First s out x
      unfolding First Seated
      orders_first =
          record {
            seated = record {
              rowed = sits.rowed;
              based = sits.based ∙ sym (table_kept 0 (omega arith));
              ends = rw (table_kept 1 (omega arith)) sits.ends;
            };
            some = rw out_is (row_held s im t h sits.rowed.known some named n d);
            named = rw out_is (row_leads s im t h sits.rowed.known some named n d);
          }

  -- the orders of a row were ticks, and the flags tell the answer of the last
  module _ (low : at s im (flags t) < 4) (c most n : ℕ) (ec : c ≡ at s im clock) (en : n ≡ row_length x.segment (part_of r im) most) where
    calm : (k : ℕ) → k < n → at s (in_a_row s im t k) (flags t) < 4
    calm k hk =
        rw (row_flags s im t h sits.rowed.known x.segment xs (part_of r im) joined there k)
        (row_quiet x.segment (part_of r im) most (part_calm low) k (rw (← en) hk))

    pub orders_few : n ≤ most
    orders_few = rw en (row_few x.segment (part_of r im) most)

    pub orders_told : 0 < most → most ≤ c → (p out : List ℕ) → p ≡ part_after x.segment (part_of r im) n → out ≡ put s (with_part r im p) clock (c - n)
        → Told s im n (by_flags (at s out (flags t)) t) out
    unfolding Told
    orders_told some-order within p out ep eo =
        let some-taken : 0 < n = rw en (row_some x.segment (part_of r im) most some-order) in
        let k = n - 1 in
        let e : n ≡ suc k = omega arith in
        let is = out_is n p ep (c - n) out eo in
        let same : at s out (flags t) ≡ at s (in_a_row s im t (suc k)) (flags t) =
        rw is (past_clock s (in_a_row s im t n) (c - n) (flags t) (sits.rowed.known, omega arith) tt) ∙
        ap (λ (j : ℕ). at s (in_a_row s im t j) (flags t)) e in
        let a : by_flags (at s out (flags t)) t ≡ (tick s (ticked s im k)).answer =
        rw (row_told s im t h sits.rowed.known some named c ec k (omega (arith, orders_few)) (λ j hj. calm j (omega arith)), same) (sym (row_answer k (calm k (omega arith)))) in
        let b : out ≡ (tick s (ticked s im k)).image =
        is ∙ sym (ticks_row s im t h sits.rowed.known some named c ec n (omega (arith, orders_few)) calm) ∙ ap (ticked s im) e in
        (some-taken, rw (a, b))

    -- each but the last is done
    row_done : most ≤ c → (k : ℕ) → suc k < n → (tick s (ticked s im k)).answer ≡ Answer.OrderDone t
    row_done within k hk =
        let none : error_of (at s (in_a_row s im t (suc k)) (flags t)) ≡ 0 = omega (arith, calm (suc k) hk) in
        row_told s im t h sits.rowed.known some named c ec k (omega (arith, orders_few)) (λ j hj. calm j (omega arith)) ∙
        row_answer k (calm k (omega arith)) ∙ ap (λ (b : Bool). cond b (Answer.OrderDone t) (Answer.OrderFaulted t)) (eq-eqb _ 0 none)

    row_grown : most ≤ c → (counts : List ℕ) (k : ℕ) → k < n → tallied s im k counts ≡ grown counts (count_place t Heading.Orders) k
    unfolding tallied
    row_grown within counts zero hk = sym (grown_none counts (count_place t Heading.Orders))
    row_grown within counts (suc k) hk =
        let e : k + 1 ≡ suc k = omega arith in
        ap (λ (a : Answer). counted (tallied s im k counts) (tally a)) (row_done within k hk) ∙
        ap (λ (l : List ℕ). grown l (count_place t Heading.Orders) 1) (row_grown within counts k (omega arith)) ∙
        grown_twice counts (count_place t Heading.Orders) k 1 ∙ ap (grown counts (count_place t Heading.Orders)) e

    -- so a row is counted as orders, the last as its answer says
    pub row_counted : 0 < most → most ≤ c → (p out : List ℕ) → p ≡ part_after x.segment (part_of r im) n → out ≡ put s (with_part r im p) clock (c - n)
        → RowCounted s im n t (at s out (flags t))
    unfolding Told RowCounted tallied
    row_counted some-order within p out ep eo counts =
        let told = orders_told some-order within p out ep eo in
        let some-taken : 0 < n = told.0 in
        let e : n ≡ suc (n - 1) = omega arith in
        ap (λ (j : ℕ). tallied s im j counts) e ∙ ap (λ o. counted (tallied s im (n - 1) counts) (tally o.answer)) (sym told.1) ∙
        ap (λ (l : List ℕ). counted l (tally (by_flags (at s out (flags t)) t))) (row_grown within counts (n - 1) (omega arith)) ∙
        last_counted counts t n (at s out (flags t)) some-taken

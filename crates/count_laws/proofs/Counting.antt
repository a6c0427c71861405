-- One count more: what an answer does to each count, to their sum and to their bound. Assumes nothing.
use mathlib.Core.Path.{◌≡◌, refl, sym, ap, ◌∙◌}
use mathlib.Core.List.{List, [], ◌∷◌}
use mathlib.Core.Bool.{true, false, cond, true≢false}
use mathlib.Core.Logic.{◌≢◌, ◌⊎◌, dite, inl, inr}
use Prim.Native.Nat.{ℕ, zero, suc, ◌+◌, ◌<◌}
use native.Mathlib.Decide.{ℕ_discrete, dec_lt}
use native.Mathlib.Omega.{arith}
use borrow.Author.Tests.{eqb-false, eq-eqb, ne_eqb}
use lib.Dec.{eqb}
use lib.ListN.{length, get_or, get_or-eq_default}
use Rattle.paper.specs.Image.{most_tasks}
use Rattle.paper.specs.Counts.{column, idle_count, all_counts, count_place, grown, counted, most_count, passes_end, sum}
use Rattle.paper.specs.declared.Task.{Task}
use Rattle.paper.specs.declared.Heading.{Heading}
use Rattle.paper.specs.declared.Tally.{Tally}
use Rattle.counting.specs.Growing.{columns, before_idle, grown_length, grown_at, grown_other}
use Rattle.count_laws.specs.Used.{times_at, OneMore, Bounded}

-- the sum of the counts grows by as much as one of them
pub grown_sum : (counts : List ℕ) (k n : ℕ) → k < length counts → sum (grown counts k n) ≡ sum counts + n
unfolding grown sum
grown_sum [] k n h = absurd (omega arith)
grown_sum (x ∷ later) zero n h = omega arith
grown_sum (x ∷ later) (suc k) n h = omega (arith, grown_sum later k n (omega arith))

-- a count that is not at its end has not passed it when it has grown by 1
pub grown_bounded : (counts : List ℕ) (k : ℕ) → Bounded counts → get_or counts k 0 ≢ most_count → Bounded (grown counts k 1)
grown_bounded counts k b ne j =
    dite (ℕ_discrete j k)
    (λ e.
    rw e (dite (dec_lt k (length counts)) (λ (h : k < length counts). omega (arith, grown_at counts k 1 h, b k, ne))
    (λ (h : ¬ (k < length counts)).
    let z : get_or (grown counts k 1) k 0 ≡ 0 = get_or-eq_default (grown counts k 1) 0 (omega (arith, grown_length counts k 1, h)) in
    omega (arith, z))))
    (λ e. omega (arith, grown_other counts k 1 j e, b j))

-- each other count, and this one, as a sum
pub grown_each : (counts : List ℕ) (k j : ℕ) → j < length counts → get_or (grown counts k 1) j 0 ≡ get_or counts j 0 + cond (eqb j k) 1 0
grown_each counts k j h =
    dite (ℕ_discrete j k) (λ e. rw (eq-eqb j k e) (rw e (grown_at counts k 1 (rw (← e) h))))
    (λ e. rw (ne_eqb j k e) (omega (arith, grown_other counts k 1 j e)))

-- no two headings, of one task or of two, have one place
abbrev headed : ℕ → Heading
headed k = get_or (Heading.Orders ∷ Heading.Services ∷ Heading.Waits ∷ Heading.Faults ∷ Heading.ErrorStops ∷ []) k Heading.PassedTurns

headed_column : (h : Heading) → headed (column h) ≡ h
headed_column Heading.Orders = refl
headed_column Heading.Services = refl
headed_column Heading.Waits = refl
headed_column Heading.Faults = refl
headed_column Heading.ErrorStops = refl
headed_column Heading.PassedTurns = refl

pub one_heading : (i j : Task) (h g : Heading) → count_place i h ≡ count_place j g → (i.0 ≡ j.0) × (h ≡ g)
one_heading i j h g e =
    let c : column h ≡ column g = omega (arith, columns h, columns g, e) in
    (omega (arith, columns h, columns g, e), sym (headed_column h) ∙ ap headed c ∙ headed_column g)

-- an answer that is counted at a place which the counts have
abbrev pub Inside : Tally → Type 0
Inside Tally.Nowhere = Unit {0}
Inside Tally.Idle = Unit {0}
Inside (Tally.Under i h) = i.0 < most_tasks

-- how often it is counted at all
abbrev pub times : Tally → ℕ
times Tally.Nowhere = 0
times Tally.Idle = 1
times (Tally.Under i h) = 1

pub counted_each : (counts : List ℕ) (t : Tally) (k : ℕ) → k < length counts → get_or (counted counts t) k 0 ≡ get_or counts k 0 + times_at k t
counted_each counts Tally.Nowhere k h = omega arith
counted_each counts Tally.Idle k h = grown_each counts idle_count k h
counted_each counts (Tally.Under i g) k h = grown_each counts (count_place i g) k h

pub counted_sum : (counts : List ℕ) (t : Tally) → length counts ≡ all_counts → Inside t → sum (counted counts t) ≡ sum counts + times t
counted_sum counts Tally.Nowhere n l = omega arith
counted_sum counts Tally.Idle n l = grown_sum counts idle_count 1 (omega (arith, n))
counted_sum counts (Tally.Under i h) n l = grown_sum counts (count_place i h) 1 (omega (arith, n, before_idle i h l))

pub counted_bounded : (counts : List ℕ) (t : Tally) → Bounded counts → passes_end counts t ≡ false → Bounded (counted counts t)
counted_bounded counts Tally.Nowhere b e = b
counted_bounded counts Tally.Idle b e = grown_bounded counts idle_count b (eqb-false _ _ e)
counted_bounded counts (Tally.Under i h) b e = grown_bounded counts (count_place i h) b (eqb-false _ _ e)

-- one that is counted is counted at one place
grown_one : (counts : List ℕ) (k : ℕ) → length counts ≡ all_counts → k < all_counts
    → (k ≡ idle_count) ⊎ ((i : Task) × (h : Heading) × (i.0 < most_tasks) × (k ≡ count_place i h)) → OneMore counts (grown counts k 1)
grown_one counts k n l name =
    record {
      place = k;
      inside = l;
      named = name;
      grew = grown_at counts k 1 (omega (arith, n, l));
      others = λ j ne. grown_other counts k 1 j ne;
      as_many = grown_length counts k 1;
    }

pub counted_one : (counts : List ℕ) (t : Tally) → length counts ≡ all_counts → Inside t → times t ≡ 1 → OneMore counts (counted counts t)
counted_one counts Tally.Nowhere n l e = absurd (omega (arith, e))
counted_one counts Tally.Idle n l e = grown_one counts idle_count n (omega arith) (inl refl)
counted_one counts (Tally.Under i h) n l e =
    grown_one counts (count_place i h) n (omega (arith, before_idle i h l)) (inr (i, h, l, refl))

pub counted_none : (counts : List ℕ) (t : Tally) → times t ≡ 0 → counted counts t ≡ counts
counted_none counts Tally.Nowhere e = refl
counted_none counts Tally.Idle e = absurd (omega (arith, e))
counted_none counts (Tally.Under i h) e = absurd (omega (arith, e))

-- and one whose count is at its end is counted
pub at_end_counted : (counts : List ℕ) (t : Tally) → passes_end counts t ≡ true → times t ≡ 1
at_end_counted counts Tally.Nowhere e = absurd (true≢false (sym e))
at_end_counted counts Tally.Idle e = refl
at_end_counted counts (Tally.Under i h) e = refl

-- Events counted one by one come to what the list does. Assumes nothing.
use Rattle.std.specs.Prelude.{Err, Ok, Result}
use mathlib.Core.Path.{◌≡◌, sym, ap, ◌∙◌}
use mathlib.Core.List.{List}
use mathlib.Core.Bool.{Bool, true, false}
use Prim.Native.Nat.{ℕ, ◌+◌, ◌*◌, ◌%◌, ◌/◌, ◌<◌, ◌≤◌}
use native.Mathlib.Omega.{arith}
use lib.ListN.{length, get_or, drop}
use lib.Seq.{drop-length}
use Rattle.paper.specs.Waking.{outcome}
use Rattle.paper.specs.Events.{event_of, happening}
use Rattle.paper.specs.Counts.{tally, counted, passes_end, Counted, counted_event, Reported, reports_on, report_from}
use Rattle.paper.specs.declared.Shape.{Shape}
use Rattle.paper.specs.declared.Event.{Event}
use Rattle.paper.specs.declared.Answer.{Answer}
use Rattle.paper.specs.declared.Refusal.{Refusal}
use Rattle.paper.specs.declared.Tally.{Tally}
use Rattle.event_laws.specs.Walk.{happening_unchanged}
use Rattle.happening.proofs.Taking.{rest_is}
use Rattle.careful.specs.OneByOne.{CountsOne, CountsAll}

-- one event, whose reply is known before it is carried out
module _ (s : Shape) (im counts : List ℕ) (e : Event) (told : Result Answer Refusal) (et : told ≡ (happening s im e).reply) where
  module _ (a : Answer) (ea : told ≡ Ok a) (t : Tally) (tt : t ≡ tally a) where
    pub one_full : (b : Bool) → b ≡ passes_end counts t → b ≡ true → CountsOne s im counts e (Err Refusal.CountFull) im counts
    unfolding CountsOne counted_event
    one_full b eb h = rw (← et, ea, ← tt, ← eb, h)

    pub one_counted : (b : Bool) → b ≡ passes_end counts t → b ≡ false → (more : List ℕ) → more ≡ counted counts t
        → (r : Result Answer Refusal) (out : List ℕ) → outcome r out ≡ happening s im e → CountsOne s im counts e r out more
    unfolding CountsOne counted_event
    one_counted b eb h more em r out o =
        let er : r ≡ Ok a = ap (λ x. x.reply) o ∙ sym et ∙ ea in
        let eo : out ≡ (happening s im e).image = ap (λ x. x.image) o in
        rw (er, eo, em, ← et, ea, ← tt, ← eb, h)

  pub one_refused : (f : Refusal) → told ≡ Err f → CountsOne s im counts e (Err f) im counts
  unfolding CountsOne counted_event
  one_refused f ef =
      let same : (happening s im e).image ≡ im = happening_unchanged s im e f (sym et ∙ ef) in
      rw (same, ← et, ef)

-- k events taken before others
abbrev after : ℕ → Reported → Reported
after k r = record { taken = k + r.taken; stop = r.stop; image = r.image; counts = r.counts }

-- the events of a list are k counted ones, and then those of the rest of the list
unfoldable pub CountedFrom : Shape → List ℕ → List ℕ → List ℕ → ℕ → List ℕ → List ℕ → Type 0
CountedFrom s im counts events k m more = report_from s im counts events ≡ after k (report_from s m more (drop (3 * k) events))

module _ (s : Shape) (im counts events : List ℕ) where
  pub counted_none : CountedFrom s im counts events 0 im counts
  unfolding CountedFrom
  counted_none =
      let all = report_from s im counts events in
      let none : all.taken ≡ 0 + all.taken = omega arith in
      ap (λ (n : ℕ). record { taken = n; stop = all.stop; image = all.image; counts = all.counts }) none

  -- the next event
  module _ (k : ℕ) (m more : List ℕ) (h : CountedFrom s im counts events k m more) (whole : 3 * k + 2 < length events) (r : Result Answer Refusal) (out next : List ℕ)
      (is : CountsOne s m more (event_of s (get_or events (3 * k) 0) (get_or events (3 * k + 1) 0) (get_or events (3 * k + 2) 0)) r out next) where
    one_next : report_from s im counts events ≡ after k (reports_on r out next (λ i c. report_from s i c (drop (3 * (k + 1)) events)))
    unfolding CountedFrom CountsOne
    one_next =
        h ∙ ap (λ l. after k (report_from s m more l)) (rest_is events k whole) ∙
        ap (λ (o : Counted). after k (reports_on o.reply o.image o.counts (λ i c. report_from s i c (drop (3 * (k + 1)) events)))) is

    pub counted_more : (a : Answer) → r ≡ Ok a → CountedFrom s im counts events (k + 1) out next
    unfolding CountedFrom
    counted_more a e =
        let later = report_from s out next (drop (3 * (k + 1)) events) in
        let moved : k + (1 + later.taken) ≡ k + 1 + later.taken = omega arith in
        rw e at one_next ∙
        ap (λ (n : ℕ). record { taken = n; stop = later.stop; image = later.image; counts = later.counts }) moved

    pub counted_refused : (f : Refusal) → r ≡ Err f → CountsAll s im counts events k (Err f) out next
    unfolding CountsAll
    counted_refused f e =
        let none : k + 0 ≡ k = omega arith in
        rw e at one_next ∙ ap (λ (n : ℕ). record { taken = n; stop = Err f; image = out; counts = next }) none

  -- no event is left
  counted_so_far : (k all : ℕ) (m more : List ℕ) → length events % 3 ≡ 0 → all ≡ length events / 3 → k ≤ all → all ≤ k → CountedFrom s im counts events k m more
      → CountsAll s im counts events k (Ok tt) m more
  unfolding CountedFrom CountsAll
  counted_so_far k all m more whole ea low done h =
      let end : 3 * k ≡ length events = omega arith in
      let none : k + 0 ≡ k = omega arith in
      h ∙ ap (λ l. after k (report_from s m more l)) (ap (λ (j : ℕ). drop j events) end ∙ drop-length events) ∙
      ap (λ (n : ℕ). record { taken = n; stop = Ok tt; image = m; counts = more }) none

  pub counted_all : (k all : ℕ) (m more : List ℕ) → length events % 3 ≡ 0 → all ≡ length events / 3 → k ≤ all → all ≤ k → CountedFrom s im counts events k m more
      → CountsAll s im counts events all (Ok tt) m more
  counted_all k all m more whole ea low done h = let z : all ≡ k = omega arith in rw z (counted_so_far k all m more whole ea low done h)

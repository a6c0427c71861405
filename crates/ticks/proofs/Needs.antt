-- What the calls of this crate ask and make, as laws over values. Assumes nothing.
use Rattle.std.specs.Prelude.{Option, Some, None}
use mathlib.Core.Path.{◌≡◌, refl, sym, ap, ◌∙◌}
use mathlib.Core.List.{List}
use mathlib.Core.Bool.{Bool, true, false, not, true≢false}
use mathlib.Core.Logic.{◌≢◌}
use Prim.Native.Nat.{ℕ, ◌+◌, ◌-◌, ◌<◌, ◌≤◌, min}
use native.Mathlib.Omega.{arith}
use borrow.Author.Tests.{eq-eqb, ne_eqb, le-leb, lt-leb}
use lib.ListN.{length}
use Rattle.paper.specs.Image.{task, most_tasks, cell, place, at, reg, clock, flags}
use Rattle.paper.specs.Queues.{empty, first}
use Rattle.paper.specs.Flags.{error_of}
use Rattle.paper.specs.Waking.{answered}
use Rattle.paper.specs.Rules.{Fit, Flagged}
use Rattle.paper.specs.Events.{turned, turn_of, tick}
use Rattle.paper.specs.Numbers.{answer_task}
use Rattle.paper.specs.Counts.{tally, count_place, grown, counted}
use Rattle.paper.specs.declared.Task.{Task}
use Rattle.paper.specs.declared.Place.{Place}
use Rattle.paper.specs.declared.Shape.{Shape}
use Rattle.paper.specs.declared.Part.{Part}
use Rattle.paper.specs.declared.Queue.{Queue}
use Rattle.paper.specs.declared.Heading.{Heading}
use Rattle.paper.specs.declared.Answer.{Answer}
use Rattle.laws.specs.Checked.{good_sound}
use Rattle.laws.specs.Sound.{Sound, sound}
use Rattle.laws.specs.Orders.{lies_apart}
use Rattle.laws.specs.Events.{Lawful, good}
use Rattle.event_laws.proofs.Stays.{first_task}
use Rattle.event_laws.specs.First.{stays_first}
use Rattle.event_laws.proofs.First.{tick_stays}
use Rattle.words.specs.Spots.{Rowed}
use Rattle.words.specs.declared.Row.{Row}
use Rattle.machine.specs.InRow.{row_length}
use Rattle.machine.specs.RowLength.{row_few}
use Rattle.effects.specs.declared.Segment.{Segment}
use Rattle.ticks.specs.Seated.{Seated, First, FirstIf, part_of}
use Rattle.ticks.specs.Ticks.{Told}
use Rattle.ticks.specs.Rounds.{by_flags, answer_of, stays_of, gone}
use Rattle.ticks.specs.Tallied.{tallied}
use Rattle.ticks.proofs.Tallying.{tick_few}
use Rattle.ticks.specs.declared.Seat.{Seat}

-- what a good image gives the calls
module _ (s : Shape) (im : List ℕ) (h : Lawful s im) where
  pub lawful_sound : Sound s im
  lawful_sound = good_sound s im (good h)

  pub lawful_fit : Fit s
  lawful_fit = (sound lawful_sound).laid.fit

  -- the first task, and where its words lie
  module _ (some : empty s im Queue.Ready ≡ false) (t : ℕ) (et : t ≡ first s im Queue.Ready) where
    pub first_in : t < s.n
    first_in = rw et (first_task s im (good h) some)

    module _ (r : Row) (er : r.task ≡ task t) (placed : Rowed s r) (b : ℕ) (eb : b ≡ at s im (cell Part.SegmentTable t 0)) where
      pub row_before : r.place.0 ≤ b
      row_before =
          let l = lies_apart s im (task t) first_in (sound lawful_sound).laid in
          let p : r.place ≡ place s (reg (task t) 0) = rw er at placed.placed in
          omega (arith, ap (λ (p : Place). p.0) p, eb, l)

      pub seat_made : (n : ℕ) → n ≡ at s im (cell Part.SegmentTable t 1)
          → First s im record { row = r; segment = record { from = b - r.place.0; to = b - r.place.0 + n } }
      unfolding First Seated
      seat_made n en =
          record {
            seated = record { rowed = placed; based = rw er (omega (arith, row_before, eb)); ends = rw (er, en) };
            some = some;
            named = rw er (sym et);
          }

-- sound images of one shape are of one length
pub sound_long : (s : Shape) (a b : List ℕ) → Sound s a → Sound s b → length a ≡ length b
sound_long s a b g h = (sound g).laid.words ∙ sym (sound h).laid.words

-- what a seat says
module _ (s : Shape) (im : List ℕ) (x : Seat) (f : First s im x) where
  pub first_rowed : Rowed s x.row
  unfolding First Seated
  first_rowed = f.seated.rowed

  pub first_some : empty s im Queue.Ready ≡ false
  unfolding First
  first_some = f.some

  pub first_flagged : Lawful s im → Flagged s im x.row.task
  first_flagged h = (good h).flags x.row.task first_rowed.known

  -- a tick is by the rules of its task
  tick_is : tick s im ≡ turn_of s im x.row.task
  unfolding First tick
  tick_is = rw (f.some, f.named)

  -- a rule that comes before an order
  module _ (a : Answer) (out : List ℕ) (e : answered a out ≡ turn_of s im x.row.task) where
    pub rule_is : answered a out ≡ tick s im
    rule_is = e ∙ sym tick_is

    -- its task has a row of counts
    pub rule_few : Lawful s im → answer_task a < most_tasks
    rule_few h = rw (ap (λ o. o.answer) rule_is) (tick_few s im h)

    -- it leaves the first task first where its answer tells so
    pub rule_stays : Lawful s im → FirstIf (stays_of (Some a)) s out x
    unfolding stays_of FirstIf First Seated
    rule_stays h = go (stays_first a) refl
      where
        go : (b : Bool) → stays_first a ≡ b → FirstIf b s out x
        go false eb = tt
        go true eb =
            let k = tick_stays s im (good h) f.some (rw (ap (λ o. o.answer) rule_is) at eb) in
            rw (ap (λ o. o.image) rule_is)
            (record {
              seated = record {
                rowed = f.seated.rowed;
                based = f.seated.based ∙ sym (k.2 x.row.task 0 f.seated.rowed.known (omega arith));
                ends = rw (k.2 x.row.task 1 f.seated.rowed.known (omega arith)) f.seated.ends;
              };
              some = k.0;
              named = k.1 ∙ f.named;
            })

  -- the turn passes, with no error and no time left
  module _ (c d : ℕ) (ec : c ≡ at s im (flags x.row.task)) (calm : c < 4) (ed : d ≡ at s im clock) (z : d ≡ 0) where
    turn_passed : turn_of s im x.row.task ≡ answered (Answer.TurnPassed x.row.task) (turned s im x.row.task)
    unfolding turn_of
    turn_passed =
        let none : error_of c ≡ 0 = omega arith in
        rw (← ec, eq-eqb (error_of c) 0 none, ← ed, eq-eqb d 0 z)

    pub turn_is : (out : List ℕ) → out ≡ turned s im x.row.task → answered (Answer.TurnPassed x.row.task) out ≡ tick s im
    turn_is out eo = rw (eo, tick_is, turn_passed)

-- one tick by a rule, as its answer tells
module _ (s : Shape) (im : List ℕ) (a : Answer) (out : List ℕ) (e : answered a out ≡ tick s im) where
  pub one_counted : (counts more : List ℕ) → more ≡ counted counts (tally a) → more ≡ tallied s im 1 counts
  unfolding tallied
  one_counted counts more em = em ∙ ap (λ o. counted counts (tally o.answer)) e

  module _ (x : Seat) where
    pub one_told : Told s im 1 (answer_of s out x (Some a)) out
    unfolding Told answer_of
    one_told = (omega arith, e)

    -- by a rule before an order, or by the turn
    module _ (c d : ℕ) (ec : c ≡ at s im (flags x.row.task)) (ed : d ≡ at s im clock) (most : ℕ) where
      pub rule_gone : 4 ≤ c → record { taken = 1; came = Some a } ≡ gone s im x most
      unfolding gone
      rule_gone loud = rw (← ec, le-leb 4 c loud, ← e)

      pub turn_gone : c < 4 → d ≡ 0 → record { taken = 1; came = Some a } ≡ gone s im x most
      unfolding gone
      turn_gone calm z = rw (← ec, lt-leb 4 c calm, ← ed, eq-eqb d 0 z, ← e)

pub turn_counted : (s : Shape) (im out : List ℕ) (i : Task) → answered (Answer.TurnPassed i) out ≡ tick s im → (counts more : List ℕ) (k : ℕ) → k ≡ count_place i Heading.PassedTurns
    → more ≡ grown counts k 1 → more ≡ tallied s im 1 counts
turn_counted s im out i e counts more k ek em = one_counted s im _ out e counts more (rw (← ek) em)

pub turn_leaves : (s : Shape) (out : List ℕ) (x : Seat) → FirstIf (stays_of (Some (Answer.TurnPassed x.row.task))) s out x
unfolding stays_of FirstIf
turn_leaves s out x = tt

-- orders in a row
module _ (s : Shape) (im : List ℕ) (x : Seat) where
  pub orders_gone : (c d : ℕ) → c ≡ at s im (flags x.row.task) → d ≡ at s im clock → (most n : ℕ) → c < 4 → d ≢ 0
      → n ≡ row_length x.segment (part_of x.row.place.0 im) (min most d) → record { taken = n; came = None } ≡ gone s im x most
  unfolding gone
  orders_gone c d ec ed most n calm time en = rw (← ec, lt-leb 4 c calm, ← ed, ne_eqb d 0 time, en)

  pub orders_answer : (out : List ℕ) (n : ℕ) → Told s im n (by_flags (at s out (flags x.row.task)) x.row.task) out → Told s im n (answer_of s out x None) out
  unfolding answer_of
  orders_answer out n t = t

  pub orders_stay : First s im x → FirstIf (stays_of None) s im x
  unfolding stays_of FirstIf
  orders_stay f = f

-- what the tests of a word tell of it
pub flags_calm : (s : Shape) (im : List ℕ) (i : Task) (f : ℕ) → f ≡ at s im (flags i) → f < 4 → at s im (flags i) < 4
flags_calm s im i f e h = omega arith

pub has_time : (c : ℕ) → c ≢ 0 → 0 < c
has_time c ne = omega arith

-- a seat that is first still
module _ (s : Shape) (im : List ℕ) (x : Seat) where
  still : (b : Bool) → FirstIf b s im x → not b ≡ false → First s im x
  unfolding FirstIf
  still true f e = f
  still false f e = absurd (true≢false e)

  pub first_still : (c : Option Answer) (b : Bool) → FirstIf (stays_of c) s im x → b ≡ stays_of c → not b ≡ false → First s im x
  first_still c b f eb e = still (stays_of c) f (ap not (sym eb) ∙ e)

-- the least of two numbers: where they are not 0 it is not, and what is at most that is at most the second
module _ (a b l : ℕ) (e : l ≡ min a b) where
  pub least_some : 0 < b → 0 < a → 0 < l
  least_some hb ha = omega (arith, e)

  pub least_second : (n : ℕ) → n ≤ l → n ≤ b
  least_second n h = omega (arith, e)

-- how many orders a row of at most so many has
module _ (g : Segment) (p : List ℕ) (n l : ℕ) (e : n ≡ row_length g p l) where
  pub row_fits : n ≤ l
  row_fits = rw e (row_few g p l)

  pub row_least : (a b : ℕ) → l ≡ min a b → n ≡ row_length g p (min a b)
  row_least a b el = rw (← el) e

-- the answer of what a tick came to
module _ (s : Shape) (im : List ℕ) (x : Seat) (c : Option Answer) (a : Answer) where
  pub told_order : (f : ℕ) → c ≡ None → f ≡ at s im (flags x.row.task) → a ≡ by_flags f x.row.task → a ≡ answer_of s im x c
  unfolding answer_of
  told_order f ec ef ea = rw (ec, ← ef) ea

  pub told_answer : c ≡ Some a → a ≡ answer_of s im x c
  unfolding answer_of
  told_answer ec = rw ec

-- the answer of an order
module _ (f e : ℕ) (i : Task) (ee : e ≡ error_of f) where
  pub flags_done : e ≡ 0 → Answer.OrderDone i ≡ by_flags f i
  flags_done z = rw (← ee, eq-eqb e 0 z)

  pub flags_faulted : e ≢ 0 → Answer.OrderFaulted i ≡ by_flags f i
  flags_faulted z = rw (← ee, ne_eqb e 0 z)

-- The events of a buffer taken one after another, with their lines. Assumes nothing.
use Rattle.std.specs.Prelude.{Err, Ok, Result, ⊤}
use mathlib.Core.Path.{◌≡◌, refl, sym, ap, ◌∙◌}
use mathlib.Core.List.{List, ◌++◌}
use Prim.Native.Nat.{ℕ, ◌+◌, ◌%◌, ◌<◌, ◌≤◌, ◌*◌}
use native.Mathlib.Nat.{add-zero}
use native.Mathlib.Omega.{arith}
use mathlib.Core.Logic.{◌≢◌}
use lib.ListN.{length, get_or, take, length-append}
use lib.Seq.{length-take-le}
use Rattle.paper.specs.Events.{event_of, happening}
use Rattle.paper.specs.Runner.{word, line, last_line, after_line, prints_on, printed_from}
use Rattle.paper.specs.declared.Shape.{Shape}
use Rattle.paper.specs.declared.Refusal.{Refusal}
use Rattle.writes.specs.Written.{written, written_length}
use Rattle.paper.specs.Waking.{outcome}
use Rattle.paper.specs.declared.Answer.{Answer}
use Rattle.laws.specs.Events.{Lawful}
use Rattle.runner_lines.specs.Lines.{most_line}
use Rattle.runner_events.specs.Buffers.{event_bytes, event_at, number_end, text_room, FeedsShort, Feeds, ForAnyRest, Buffered}
use Rattle.runner_events.proofs.Printing.{printed_step, printed_none, printed_short, Joins, joins_start, joins_line, joins_end, joins_last, any_rest}

-- events so far: all bytes but the rest are taken, and their lines are written
pub record Going (s : Shape) (first : List ℕ) (n : ℕ) (bytes o im out rest : List ℕ) (text taken : ℕ) : Type 0 where
  pub joins : Joins o out text taken (printed_from s im (n + taken) rest) (printed_from s first n bytes)
  pub kept : length out ≡ length o
  pub place : length bytes ≡ event_bytes * taken + length rest
  pub room : text ≤ most_line * taken
  pub good : Lawful s im

module _ (s : Shape) (first : List ℕ) (n : ℕ) (bytes o : List ℕ) where
  pub going_start : (rest : List ℕ) → rest ≡ bytes → Lawful s first → Going s first n bytes o first o rest 0 0
  going_start rest e h =
      record {
        joins = rw (add-zero n, e) (joins_start o (printed_from s first n bytes));
        kept = refl;
        place = omega (arith, ap length e);
        room = omega arith;
        good = h;
      }

  module _ (im out rest : List ℕ) (text taken : ℕ) (g : Going s first n bytes o im out rest text taken) where
    pub line_room : text_room bytes ≤ length o → text + most_line ≤ length out
    line_room r = omega (arith, g.kept, g.place, g.room)

    pub number_room : n + length bytes < number_end → n + taken < number_end
    number_room r = omega (arith, g.place)

    -- no events are left
    pub events_end : length rest < event_bytes → length bytes % event_bytes ≡ 0 → text_room bytes ≤ length o → Feeds s first n bytes o im out text taken (Ok tt)
    events_end l h r =
        let none : length rest ≡ 0 = omega (arith, g.place) in
        record {
          prints = joins_end o out text taken _ im (rw (printed_none s im (n + taken) rest none) at g.joins);
          good = g.good;
          fits = omega (arith, g.place, g.room);
          few = omega (arith, g.place);
        }

    -- a short one is left
    pub short_left : (out' : List ℕ) (text' taken' : ℕ) (stop : Result ⊤ Refusal) → length rest < event_bytes → length bytes % event_bytes ≢ 0 → text_room bytes ≤ length o
        → FeedsShort text taken n out out' text' taken' stop → Feeds s first n bytes o im out' text' taken' stop
    short_left out' text' taken' stop l h r f =
        let some : 0 < length rest = omega (arith, g.place, h) in
        record {
          prints =
              rw (f.counted, f.made, f.same, f.stopped) (joins_last o out text taken _ (n + taken) Refusal.MalformedEvent im
              (rw (printed_short s im (n + taken) rest some l) at g.joins));
          good = g.good;
          fits = omega (arith, f.small, line_room r, g.kept);
          few = omega (arith, f.same, g.place);
        }

    -- one more is left
    module _ (event after : List ℕ) (ee : rest ≡ event ++ after) (six : length event ≡ event_bytes) where
      place_more : length bytes ≡ event_bytes * (taken + 1) + length after
      place_more = omega (arith, g.place, ap length ee, length-append event after, six)

      pub taken_more : taken + 1 ≤ length bytes
      taken_more = omega (arith, place_more)

      -- and is carried out
      module _ (m : ℕ) (em : m ≡ n + taken) (out' : List ℕ) (text' : ℕ) (im' : List ℕ) (reply : Result Answer Refusal) (is : outcome reply im' ≡ happening s im (event_at s event 0)) (good : Lawful s im') (et : text' ≡ text + length (line m reply))
          (small : text' ≤ text + most_line) (eo : out' ≡ written out text (line m reply)) where
        left_is : Joins o out text taken (prints_on (n + taken) reply im' (λ next. printed_from s next (1 + (n + taken)) after)) (printed_from s first n bytes)
        left_is = rw (ap (λ o. o.reply) is, ap (λ o. o.image) is, ← printed_step s im (n + taken) after event six, ← ee) g.joins

        pub event_accepted : (a : Answer) → reply ≡ Ok a → Going s first n bytes o im' out' after text' (taken + 1)
        event_accepted a ea =
            let k : n + (taken + 1) ≡ 1 + (n + taken) = omega arith in
            let l = line (n + taken) (Ok a) in
            let p = printed_from s im' (1 + (n + taken)) after in
            let j : Joins o out text taken (after_line l p) (printed_from s first n bytes) = rw ea at left_is in
            record {
              joins = rw (et, eo, em, ea, k) (joins_line o out text taken _ l p j);
              kept = rw eo (written_length out text (line m reply) ∙ g.kept);
              place = place_more;
              room = omega (arith, g.room);
              good = good;
            }

        pub event_refused : (r : Refusal) → reply ≡ Err r → text_room bytes ≤ length o → Feeds s first n bytes o im' out' text' taken (Err r)
        event_refused r ea room =
            let j : Joins o out text taken (last_line (n + taken) r im') (printed_from s first n bytes) = rw ea at left_is in
            record {
              prints = rw (et, eo, em, ea) (joins_last o out text taken _ (n + taken) r im' j);
              good = good;
              fits = omega (arith, line_room room, g.kept);
              few = omega (arith, g.place);
            }

-- the promise allows one outcome alone
pub feeds_once : (s : Shape) (first : List ℕ) (n : ℕ) (bytes o : List ℕ) (im im' out out' : List ℕ) (text text' taken taken' : ℕ) (stop stop' : Result ⊤ Refusal)
    → Feeds s first n bytes o im out text taken stop → Feeds s first n bytes o im' out' text' taken' stop'
    → (im ≡ im') × (out ≡ out') × (text ≡ text') × (taken ≡ taken') × (stop ≡ stop')
feeds_once s first n bytes o im im' out out' text text' taken taken' stop stop' f g =
    let p = f.prints in
    let q = g.prints in (
      p.leaves ∙ sym q.leaves,
      p.made ∙ sym q.made,
      p.counted ∙ sym q.counted,
      p.number ∙ sym q.number,
      p.stops ∙ sym q.stops,
    )

-- the event whose words are read
module _ (s : Shape) (bytes : List ℕ) (at k d c : ℕ) (ek : k ≡ word (get_or bytes at 0) (get_or bytes (at + 1) 0))
    (ed : d ≡ word (get_or bytes (at + 2) 0) (get_or bytes (at + 3) 0)) (ec : c ≡ word (get_or bytes (at + 4) 0) (get_or bytes (at + 5) 0)) where
  pub event_read : event_of s k d c ≡ event_at s bytes at
  unfolding event_at
  event_read = rw (ek, ed, ec)

module _ (buffer : List ℕ) (found n : ℕ) (out : List ℕ) (b : Buffered buffer found n out) where
  pub found_length : length (take found buffer) ≡ found
  found_length = length-take-le found buffer b.inside

  pub found_numbers : n + length (take found buffer) < number_end
  found_numbers = rw found_length (omega (arith, b.inside, b.numbers))

  pub found_room : text_room (take found buffer) ≤ length out
  found_room = rw found_length (omega (arith, b.inside, b.room))

  pub found_rest : (s : Shape) (first im after : List ℕ) (text taken : ℕ) (stop : Result ⊤ Refusal) → Feeds s first n (take found buffer) out im after text taken stop
      → ForAnyRest s first n (take found buffer) im taken stop
  found_rest s first im after text taken stop f =
      any_rest s first n (take found buffer) out after im text taken stop f.prints

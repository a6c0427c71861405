-- A run that is not refused as a whole is calls of event, up to the first refused one. Assumes nothing.
use Rattle.std.specs.Prelude.{Err, Ok, Result}
use mathlib.Core.Path.{◌≡◌, refl, sym, ap, ◌∙◌}
use mathlib.Core.List.{List, [], ◌∷◌}
use mathlib.Core.Bool.{not}
use mathlib.Core.Logic.{◌≢◌}
use Prim.Native.Nat.{ℕ, zero, suc, ◌+◌, ◌*◌, ◌%◌, ◌<◌, ◌≤◌}
use native.Mathlib.Numerals.{one-add}
use native.Mathlib.Omega.{arith}
use borrow.Author.Tests.{eq-eqb, eqb-true}
use lib.Dec.{eqb}
use lib.ListN.{length}
use Rattle.paper.specs.Waking.{Outcome}
use Rattle.paper.specs.Numbers.{verdict_number, reply_number, refused_if, check}
use Rattle.paper.specs.Calls.{Ran, event, goes_on, check_run, run}
use Rattle.paper.specs.Promises.{Runs}
use Rattle.paper.specs.declared.Ended.{Ended}
use Rattle.paper.specs.declared.Refusal.{Refusal}
use Rattle.laws.specs.Checked.{no_fault, passed, never_fine, zero_is, then_fine}
use Rattle.user_laws.specs.Folded.{each_event, event_unchanged, run_folds}
use Rattle.user_laws.specs.Taken.{first_events, events_whole}
use Rattle.demands.specs.Demands.{word_of, IsCalls}
use Rattle.paper.specs.declared.Answer.{Answer}

-- what the call on event n finds, and what it comes to
abbrev called : List ℕ → List ℕ → ℕ → Outcome
called m events n = event m (word_of events n 0) (word_of events n 1) (word_of events n 2)

abbrev image_at : List ℕ → List ℕ → ℕ → List ℕ
image_at im events zero = im
image_at im events (suc n) = (called (image_at im events n) events n).image

-- the events after the first
module _ (x y z : ℕ) (later : List ℕ) where
  word_later : (n j : ℕ) → word_of (x ∷ y ∷ z ∷ later) (suc n) j ≡ word_of later n j
  word_later n j = let e : 3 * suc n + j ≡ suc (suc (suc (3 * n + j))) = omega arith in rw e

  called_later : (m : List ℕ) (n : ℕ) → called m (x ∷ y ∷ z ∷ later) (suc n) ≡ called m later n
  called_later m n = rw (word_later n 0, word_later n 1, word_later n 2)

  image_later : (im : List ℕ) (n : ℕ) → image_at im (x ∷ y ∷ z ∷ later) (suc n) ≡ image_at (event im x y z).image later n
  image_later im zero = refl
  image_later im (suc n) =
      ap (λ (o : Outcome). o.image) (called_later (image_at im (x ∷ y ∷ z ∷ later) (suc n)) n) ∙
      ap (λ (m : List ℕ). (called m later n).image) (image_later im n)

-- a list that passes is of whole events
whole_list : (im events : List ℕ) → check_run im events ≡ Ok tt → length events % 3 ≡ 0
whole_list im events fine =
    let b = eqb (length events % 3) 0 in
    eqb-true (length events % 3) 0 ((no_fault b).0 ((passed (not b) Refusal.MalformedEvent (Ok tt)).0 (then_fine (check im) (refused_if (not b) Refusal.MalformedEvent (Ok tt)) fine).1).0)

-- n events taken, with none refused
abbrev all_of : ℕ → List ℕ → Ran
all_of n m = record { taken = n; stop = Ok tt; image = m }

-- a run as calls, and the call that stops it
record Folds (im events : List ℕ) (r : Ran) : Type 0 where
  accepted : (n : ℕ) → n < r.taken → reply_number (called (image_at im events n) events n).reply ≡ 0
  ends : r.image ≡ image_at im events r.taken
  parts : (n : ℕ) → n ≤ r.taken → each_event im (first_events n events) ≡ all_of n (image_at im events n)
  whole : verdict_number r.stop ≡ 0 → 3 * r.taken ≡ length events
  stopped : verdict_number r.stop ≢ 0 → (3 * r.taken < length events) × (verdict_number r.stop ≡ reply_number (called r.image events r.taken).reply)

no_part : (events im : List ℕ) (n : ℕ) → n ≤ 0 → each_event im (first_events n events) ≡ all_of n (image_at im events n)
no_part events im zero l = refl
no_part events im (suc n) l = absurd (omega (arith, l))

folds : (events im : List ℕ) → length events % 3 ≡ 0 → Folds im events (each_event im events)
folds [] im h = record { accepted = λ n l. absurd (omega arith); ends = refl; parts = no_part _ im; whole = λ e. refl; stopped = λ ne. absurd (ne refl) }
folds (x ∷ []) im h = absurd (omega (arith, h))
folds (x ∷ y ∷ []) im h = absurd (omega (arith, h))
folds (x ∷ y ∷ z ∷ later) im h = go (event im x y z).reply refl (folds later m (omega (arith, h)))
  where
    m : List ℕ
    m = (event im x y z).image

    go : (r : Result Answer Refusal) → (event im x y z).reply ≡ r → Folds m later (each_event m later) → Folds im (x ∷ y ∷ z ∷ later) (goes_on r m (λ next. each_event next later))
    go (Ok a) e f =
        record {
          accepted = each;
          ends = rw one-add (f.ends ∙ sym (image_later x y z later im (each_event m later).taken));
          parts = part;
          whole = λ e. omega (arith, f.whole e);
          stopped = λ ne.
              let l = f.stopped ne in
              (omega (arith, l.0), rw one-add (rw (called_later x y z later (each_event m later).image (each_event m later).taken) l.1));
        }
      where
        each : (n : ℕ) → n < 1 + (each_event m later).taken → reply_number (called (image_at im (x ∷ y ∷ z ∷ later) n) (x ∷ y ∷ z ∷ later) n).reply ≡ 0
        each zero l = rw e
        each (suc n) l = rw (called_later x y z later (image_at im (x ∷ y ∷ z ∷ later) (suc n)) n, image_later x y z later im n) (f.accepted n (omega (arith, l)))

        part : (n : ℕ) → n ≤ 1 + (each_event m later).taken → each_event im (first_events n (x ∷ y ∷ z ∷ later)) ≡ all_of n (image_at im (x ∷ y ∷ z ∷ later) n)
        part zero l = refl
        part (suc n) l = rw (e, image_later x y z later im n, f.parts n (omega (arith, l)), one-add)
    go (Err r) e f =
        let u : m ≡ im = event_unchanged im x y z r e in
        record {
          accepted = λ n l. absurd (omega arith);
          ends = u;
          parts = no_part _ im;
          whole = λ none. absurd (never_fine r ((zero_is (Err r)).0 none));
          stopped = λ ne. (omega arith, rw (u, e));
        }

-- a run whose tests show no fault
module _ (im events : List ℕ) (a : Ended) (after : List ℕ) (p : Runs im events a after) (fine : check_run im events ≡ Ok tt) where
  folded : Folds im events (run im events)
  folded = rw (run_folds im events fine) (folds events im (whole_list im events fine))

  part_run : (n : ℕ) → n ≤ (run im events).taken → run im (first_events n events) ≡ all_of n (image_at im events n)
  part_run n l =
      let part = first_events n events in
      let f : check_run im part ≡ Ok tt = rw ((then_fine (check im) _ fine).0, eq-eqb (length part % 3) 0 (events_whole n events)) in
      run_folds im part f ∙ folded.parts n l

  pub is_calls : IsCalls im events a after
  is_calls =
      record {
        calls = record {
          image = image_at im events;
          reply = λ n. (called (image_at im events n) events n).reply;
          kept = λ n l. record { answered = refl; numbered = refl; valued = refl; left = refl };
        };
        starts = refl;
        accepted = λ n l. folded.accepted n (rw p.counted at l);
        ends = rw (p.counted, p.left) folded.ends;
        parts = λ n l b m q.
            let r = part_run n (rw p.counted at l) in
            (q.counted ∙ ap (λ (x : Ran). x.taken) r, q.numbered ∙ ap (λ (x : Ran). verdict_number x.stop) r, q.left ∙ ap (λ (x : Ran). x.image) r);
      }

  pub took_whole : verdict_number a.stop ≡ 0 → 3 * a.taken ≡ length events
  took_whole e = rw p.counted (folded.whole (rw p.stopped at e))

  pub stopped_at : verdict_number a.stop ≢ 0 → (3 * a.taken < length events) × (verdict_number a.stop ≡ reply_number (called after events a.taken).reply)
  stopped_at ne = rw (p.counted, p.stopped, p.left) (folded.stopped (rw p.stopped at ne))

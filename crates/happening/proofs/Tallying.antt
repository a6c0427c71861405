-- What the ticks of a list of events are counted as comes to what the whole list is. Assumes nothing.
use Rattle.std.specs.Prelude.{Err, Ok, Result}
use mathlib.Core.Path.{◌≡◌, refl, sym, ap, ◌∙◌}
use mathlib.Core.List.{List}
use mathlib.Core.Logic.{◌≢◌}
use mathlib.Core.Bool.{false}
use Prim.Native.Nat.{ℕ, zero, suc, ◌+◌, ◌-◌, ◌*◌, ◌%◌, ◌/◌, ◌<◌, ◌≤◌}
use native.Mathlib.Omega.{arith}
use lib.ListN.{length, drop}
use lib.Seq.{drop-length}
use Rattle.paper.specs.Waking.{outcome, accepted}
use Rattle.paper.specs.Events.{happening}
use Rattle.paper.specs.Counts.{tally, counted}
use Rattle.paper.specs.declared.Shape.{Shape}
use Rattle.paper.specs.declared.Event.{Event}
use Rattle.paper.specs.declared.Answer.{Answer}
use Rattle.paper.specs.declared.Refusal.{Refusal}
use Rattle.paper.specs.declared.Tally.{Tally}
use Rattle.laws.specs.Events.{Lawful}
use Rattle.event_laws.specs.Walk.{input_any, done_any, event_any}
use Rattle.counting.specs.Room.{Room}
use Rattle.counting.specs.Growing.{room_less}
use Rattle.ticks.specs.Ticks.{ticked, Told}
use Rattle.noting.specs.Noted.{Ledger}
use Rattle.noting.specs.Ledgers.{ledger_kept}
use Rattle.ticks.specs.Tallied.{tallied}
use Rattle.ticks.proofs.Tallying.{tallied_length, tallied_room}
use Rattle.ticks.proofs.Telling.{told_ticked}
use Rattle.happening.specs.Lists.{nth_event}
use Rattle.happening.specs.Tallies.{counts_on, counts_from, Tallies}
use Rattle.happening.specs.Ahead.{zeros_at, Ahead}
use Rattle.happening.proofs.AllZero.{ahead_ticks, words_no_tick}
use Rattle.happening.proofs.Taking.{TakenFrom, rest_is, tick_event, ticks_taken}

-- an event of a device is counted nowhere
abbrev Uncounted : Result Answer Refusal → Type 0
Uncounted (Ok a) = tally a ≡ Tally.Nowhere
Uncounted (Err f) = Unit {0}

device_uncounted : (s : Shape) (im : List ℕ) (e : Event) → e ≢ Event.Tick → Uncounted (happening s im e).reply
device_uncounted s im =
    event_any s im (λ e o. e ≢ Event.Tick → Uncounted o.reply) (λ ne. absurd (ne refl))
    (λ i c ne. input_any s im i (λ o. Uncounted o.reply) c (λ _. tt) (λ _ _. refl) (λ _ _. refl))
    (λ i ne. done_any s im i (λ o. Uncounted o.reply) (λ _. tt) (λ _ _. refl) (λ _ _. refl)) (λ ne. tt)

-- the counts after a list from im on are those after the rest of it, from m and the counts in hand on
unfoldable pub TalliedFrom : Shape → List ℕ → List ℕ → List ℕ → ℕ → List ℕ → List ℕ → Type 0
TalliedFrom s im events counts k m more = counts_from s im events counts ≡ counts_from s m (drop (3 * k) events) more

module _ (s : Shape) (im events counts : List ℕ) where
  tallied_none : TalliedFrom s im events counts 0 im counts
  unfolding TalliedFrom
  tallied_none = refl

  -- the next event
  module _ (k : ℕ) (m more : List ℕ) (whole : 3 * k + 2 < length events) (h : TalliedFrom s im events counts k m more) where
    next_tallied : counts_from s im events counts
        ≡ counts_on (happening s m (nth_event s events k)).reply (happening s m (nth_event s events k)).image more (λ next then. counts_from s next (drop (3 * (k + 1)) events) then)
    unfolding TalliedFrom nth_event
    next_tallied = h ∙ ap (λ l. counts_from s m l more) (rest_is events k whole)

    tallied_more : (a : Answer) (out : List ℕ) → happening s m (nth_event s events k) ≡ accepted a out → TalliedFrom s im events counts (k + 1) out (counted more (tally a))
    unfolding TalliedFrom
    tallied_more a out e = rw e at next_tallied

    tallied_refused : (f : Refusal) → (happening s m (nth_event s events k)).reply ≡ Err f → Tallies s im events counts more
    unfolding Tallies
    tallied_refused f e = sym (rw e at next_tallied)

  -- no event is left
  tallied_all : (k : ℕ) (m more : List ℕ) → 3 * k ≡ length events → TalliedFrom s im events counts k m more → Tallies s im events counts more
  unfolding TalliedFrom Tallies
  tallied_all k m more end h = sym (h ∙ ap (λ l. counts_from s m l more) (ap (λ (j : ℕ). drop j events) end ∙ drop-length events))

  -- ticks in a row
  module _ (k : ℕ) (m more : List ℕ) (h : TalliedFrom s im events counts k m more) where
    ticked_tallied : (n : ℕ) → ((j : ℕ) → j < n → nth_event s events (k + j) ≡ Event.Tick) → 3 * (k + n) ≤ length events
        → TalliedFrom s im events counts (k + n) (ticked s m n) (tallied s m n more)
    unfolding tallied
    ticked_tallied zero e l = let z : k + 0 ≡ k = omega arith in rw z h
    ticked_tallied (suc n) e l =
        let z : k + suc n ≡ k + n + 1 = omega arith in
        let before = ticked_tallied n (λ j hj. e j (omega arith)) (omega arith) in
        let here = tick_event s (ticked s m n) (nth_event s events (k + n)) (e n (omega arith)) in
        rw z (tallied_more (k + n) (ticked s m n) (tallied s m n more) (omega arith) before _ _ here)

-- the counts in hand: what the list comes to from them, that there are as many as there were, and room for the events that are left
pub record Books (s : Shape) (im events counts : List ℕ) (k : ℕ) (m more : List ℕ) : Type 0 where
  pub comes : TalliedFrom s im events counts k m more
  pub long : length more ≡ length counts
  pub room : Room more (length events / 3 - k)

-- and so much of the list is taken, on a lawful image
pub record Stood (s : Shape) (im events counts : List ℕ) (to k : ℕ) (last : Result Answer Refusal) (m more : List ℕ) : Type 0 where
  pub kept : Lawful s m
  pub taken : TakenFrom s im events k last m
  pub books : Books s im events counts k m more
  pub there : k ≡ to

module _ (s : Shape) (im events counts : List ℕ) where
  pub books_none : Room counts (length events / 3) → Books s im events counts 0 im counts
  books_none h =
      record {
        comes = tallied_none s im events counts;
        long = refl;
        room = room_less counts (length events / 3 - 0) (length events / 3) h (omega arith);
      }

  module _ (k : ℕ) (m more : List ℕ) (b : Books s im events counts k m more) where
    pub books_ledger : Ledger counts → Ledger more
    books_ledger h = ledger_kept counts more h b.long

    module _ (count : ℕ) (ec : count ≡ length events / 3) where
      pub books_room : (to : ℕ) → to ≤ count → Room more (to - k)
      books_room to h = room_less more (to - k) (length events / 3 - k) b.room (omega arith)

      -- ticks ahead
      module _ (to : ℕ) (ahead : Ahead events k to) (from : k ≤ to) (ends : to ≤ count) where
        books_ticks : Books s im events counts to (ticked s m (to - k)) (tallied s m (to - k) more)
        books_ticks =
            let all : k + (to - k) ≡ to = omega arith in
            let left : to - k + (length events / 3 - to) ≡ length events / 3 - k = omega arith in
            record {
              comes = rw all at (ticked_tallied s im events counts k m more b.comes (to - k) (λ j hj. ahead_ticks s events k to ahead j (omega arith)) (omega arith));
              long = tallied_length s m more (to - k) ∙ b.long;
              room = tallied_room s m more (to - k) (length events / 3 - to) (rw left b.room);
            }

        pub books_reach : (last : Result Answer Refusal) → TakenFrom s im events k last m → (a : Answer) (out then : List ℕ) → then ≡ tallied s m (to - k) more → Told s m (to - k) a out → Lawful s out
            → (x z : List ℕ) (j : ℕ) (y : Result Answer Refusal) → x ≡ out → z ≡ then → j ≡ to → y ≡ Ok a → Stood s im events counts to j y x z
        books_reach last taken a out then et t good x z j y ex ez ej ey =
            rw (ex, ez, ej, ey) (record {
              kept = good;
              taken = ticks_taken s im events k last m taken to ahead (omega arith) a out t;
              books = rw (et, told_ticked s m out (to - k) a t) books_ticks;
              there = refl;
            })

      -- no event is left
      pub books_all : length events % 3 ≡ 0 → k ≤ count → count ≤ k → Tallies s im events counts more
      books_all whole low done = tallied_all s im events counts k m more (omega arith) b.comes

    -- an event that is no tick
    module _ (r : Result Answer Refusal) (out : List ℕ) (is : outcome r out ≡ happening s m (nth_event s events k)) (there : 3 * k + 2 < length events) where
      pub books_event : zeros_at events (3 * k) 3 ≡ false → (a : Answer) → r ≡ Ok a → Books s im events counts (k + 1) out more
      unfolding nth_event
      books_event f a ea =
          let no = words_no_tick s events k (nth_event s events k) refl f in
          let none : tally a ≡ Tally.Nowhere = rw (← is, ea) at (device_uncounted s m (nth_event s events k) no) in
          let come = tallied_more s im events counts k m more there b.comes a out (rw ea at (sym is)) in
          record { comes = rw none at come; long = b.long; room = room_less more (length events / 3 - (k + 1)) (length events / 3 - k) b.room (omega arith) }

      pub books_refused : (f : Refusal) → r ≡ Err f → Tallies s im events counts more
      books_refused f ef = tallied_refused s im events counts k m more there b.comes f (rw ef at (ap (λ o. o.reply) (sym is)))

    -- no ticks ahead
    pub books_still : (last : Result Answer Refusal) → TakenFrom s im events k last m → Lawful s m → (to : ℕ) → k ≤ to → to ≤ k
        → (x z : List ℕ) (j : ℕ) (y : Result Answer Refusal) → x ≡ m → z ≡ more → j ≡ k → y ≡ last → Stood s im events counts to j y x z
    books_still last taken good to from here x z j y ex ez ej ey = rw (ex, ez, ej, ey) (record { kept = good; taken = taken; books = b; there = omega arith })

-- Events of a list taken one by one come to what the whole list does. Assumes nothing.
use Rattle.std.specs.Prelude.{Err, Ok, Result}
use mathlib.Core.Path.{◌≡◌, refl, sym, ap, ◌∙◌}
use mathlib.Core.List.{List, [], ◌∷◌}
use Prim.Native.Nat.{ℕ, zero, suc, ◌+◌, ◌-◌, ◌*◌, ◌%◌, ◌/◌, ◌<◌, ◌≤◌}
use native.Mathlib.Omega.{arith}
use lib.ListN.{length, get_or, drop}
use lib.Seq.{drop-cons, drop-length}
use Rattle.paper.specs.Waking.{Outcome, outcome, accepting}
use Rattle.paper.specs.Events.{event_of, tick, happening}
use Rattle.paper.specs.declared.Shape.{Shape}
use Rattle.paper.specs.declared.Event.{Event}
use Rattle.paper.specs.declared.Answer.{Answer}
use Rattle.paper.specs.declared.Refusal.{Refusal}
use Rattle.laws.specs.Sound.{Sound, sound}
use Rattle.laws.specs.Checked.{good_sound}
use Rattle.laws.specs.Events.{Formed, Lawful, lawful, good, event_formed}
use Rattle.event_laws.proofs.Stays.{words_good}
use Rattle.ticks.specs.Ticks.{ticked, Told}
use Rattle.happening.specs.Lists.{nth_event, ended, counted, onward, tells_on, told_from, Ends}
use Rattle.happening.specs.Ahead.{Ahead}
use Rattle.happening.proofs.AllZero.{ahead_ticks}

-- the events of a list from im on are k taken ones, and then those of the rest of the list from m on
unfoldable pub TakenFrom : Shape → List ℕ → List ℕ → ℕ → Result Answer Refusal → List ℕ → Type 0
TakenFrom s im events k last m = told_from s im events (Ok Answer.Idle) ≡ onward k (told_from s m (drop (3 * k) events) last)

-- the rest of a list begins with event k
pub rest_is : (events : List ℕ) (k : ℕ) → 3 * k + 2 < length events
    → drop (3 * k) events ≡ get_or events (3 * k) 0 ∷ get_or events (3 * k + 1) 0 ∷ get_or events (3 * k + 2) 0 ∷ drop (3 * (k + 1)) events
rest_is events k h =
    drop-cons events (3 * k) 0 (omega arith) ∙
    ap (λ l. get_or events (3 * k) 0 ∷ l) (
    let one : suc (3 * k) ≡ 3 * k + 1 = omega arith in
    let two : suc (3 * k + 1) ≡ 3 * k + 2 = omega arith in
    let three : suc (3 * k + 2) ≡ 3 * (k + 1) = omega arith in
    ap (λ (j : ℕ). drop j events) one ∙ drop-cons events (3 * k + 1) 0 (omega arith) ∙
    ap (λ l. get_or events (3 * k + 1) 0 ∷ l) (
    ap (λ (j : ℕ). drop j events) two ∙ drop-cons events (3 * k + 2) 0 h ∙
    ap (λ (j : ℕ). get_or events (3 * k + 2) 0 ∷ drop j events) three))

module _ (s : Shape) (im events : List ℕ) where
  pub taken_none : TakenFrom s im events 0 (Ok Answer.Idle) im
  unfolding TakenFrom
  taken_none =
      let all = told_from s im events (Ok Answer.Idle) in
      let none : all.taken ≡ 0 + all.taken = omega arith in
      ap (λ (n : ℕ). counted n all) none

  -- the next event
  module _ (k : ℕ) (last : Result Answer Refusal) (m out : List ℕ) (r : Result Answer Refusal) (whole : 3 * k + 2 < length events) (h : TakenFrom s im events k last m)
      (is : outcome r out ≡ happening s m (nth_event s events k)) where
    one_next : told_from s im events (Ok Answer.Idle) ≡ onward k (tells_on r out (λ next. told_from s next (drop (3 * (k + 1)) events) r))
    unfolding TakenFrom nth_event
    one_next = rw (ap (λ o. o.reply) is, ap (λ o. o.image) is) (h ∙ ap (λ l. onward k (told_from s m l last)) (rest_is events k whole))

    pub taken_more : (a : Answer) → r ≡ Ok a → TakenFrom s im events (k + 1) r out
    unfolding TakenFrom
    taken_more a f =
        let later = told_from s out (drop (3 * (k + 1)) events) (Ok a) in
        let moved : k + (1 + later.taken) ≡ k + 1 + later.taken = omega arith in
        rw f (rw f at one_next ∙ ap (λ (n : ℕ). counted n later) moved)

    pub taken_refused : (f : Refusal) → r ≡ Err f → Ends s im events k r out
    unfolding Ends
    taken_refused f e =
        let none : k + 0 ≡ k = omega arith in
        rw e (rw e at one_next ∙ ap (λ (n : ℕ). counted n (ended (Err f) out)) none)

  -- no event is left
  pub taken_all : (k : ℕ) (last : Result Answer Refusal) (m : List ℕ) → length events % 3 ≡ 0 → k ≡ length events / 3 → TakenFrom s im events k last m → Ends s im events k last m
  unfolding TakenFrom Ends
  taken_all k last m whole all h =
      let end : 3 * k ≡ length events = omega arith in
      let none : k + 0 ≡ k = omega arith in
      h ∙ ap (λ l. onward k (told_from s m l last)) (ap (λ (j : ℕ). drop j events) end ∙ drop-length events) ∙ ap (λ (n : ℕ). counted n (ended last m)) none

-- an outcome is its reply and its image
pub outcome_is : (o : Outcome) (r : Result Answer Refusal) (im : List ℕ) → r ≡ o.reply → im ≡ o.image → outcome r im ≡ o
outcome_is o r im er ei = rw (er, ei)

-- an event that is a tick
pub tick_event : (s : Shape) (x : List ℕ) (e : Event) → e ≡ Event.Tick → happening s x e ≡ accepting (tick s x)
unfolding happening
tick_event s x e z = rw z

-- ticks that stand in a row in a list of events
module _ (s : Shape) (im events : List ℕ) (k : ℕ) (last : Result Answer Refusal) (m : List ℕ) (h : TakenFrom s im events k last m) where
  -- the reply before tick n
  abbrev last_before : ℕ → Result Answer Refusal
  last_before zero = last
  last_before (suc n) = Ok (tick s (ticked s m n)).answer

  ticked_taken : (n : ℕ) → ((j : ℕ) → j < n → nth_event s events (k + j) ≡ Event.Tick) → 3 * (k + n) ≤ length events
      → TakenFrom s im events (k + n) (last_before n) (ticked s m n)
  ticked_taken zero e l =
      let z : k + 0 ≡ k = omega arith in
      rw z h
  ticked_taken (suc n) e l =
      let z : k + suc n ≡ k + n + 1 = omega arith in
      let before = ticked_taken n (λ j hj. e j (omega arith)) (omega arith) in
      let here = tick_event s (ticked s m n) (nth_event s events (k + n)) (e n (omega arith)) in
      rw z (taken_more s im events (k + n) (last_before n) (ticked s m n) _ _ (omega arith) before (sym here) _ refl)

  -- and so the ticks ahead
  pub ticks_taken : (to : ℕ) → Ahead events k to → 3 * to ≤ length events → (a : Answer) (out : List ℕ) → Told s m (to - k) a out → TakenFrom s im events to (Ok a) out
  unfolding Told
  ticks_taken to ahead ends a out (some, e) =
      let n = to - k - 1 in
      let z : k + suc n ≡ to = omega arith in
      let done = ticked_taken (suc n) (λ j hj. ahead_ticks s events k to ahead j (omega arith)) (omega arith) in
      rw (ap (λ o. o.answer) e, ap (λ o. o.image) e) (rw z at done)

-- a lawful image is sound
pub lawful_sound : (s : Shape) (im : List ℕ) → Lawful s im → Sound s im
lawful_sound s im h = good_sound s im (good h)

-- lawful images of one shape are of one length
pub lawful_long : (s : Shape) (a b : List ℕ) → Lawful s a → Lawful s b → length a ≡ length b
lawful_long s a b g h = (sound (lawful_sound s a g)).laid.words ∙ sym (sound (lawful_sound s b h)).laid.words

-- event k of a list, by its three words
module _ (s : Shape) (im events : List ℕ) (k : ℕ) (e : Event)
    (ee : e ≡ event_of s (get_or events (3 * k) 0) (get_or events (3 * k + 1) 0) (get_or events (3 * k + 2) 0)) where
  pub made_formed : Formed s e
  made_formed = rw ee (event_formed s _ _ _)

  module _ (r : Result Answer Refusal) (out : List ℕ) (is : outcome r out ≡ happening s im e) where
    pub nth_outcome : outcome r out ≡ happening s im (nth_event s events k)
    unfolding nth_event
    nth_outcome = rw (← ee) is

    -- the image stays lawful
    pub nth_lawful : Lawful s im → Lawful s out
    nth_lawful h = rw (ap (λ o. o.image) is, ee) (lawful (words_good s im (good h) _ _ _))

-- there is an event k
pub event_there : (events : List ℕ) (k count : ℕ) → count ≡ length events / 3 → k < count → 3 * k + 2 < length events
event_there events k count e h = omega arith

-- all events are taken
pub all_end : (s : Shape) (im events : List ℕ) (k count : ℕ) (last : Result Answer Refusal) (m : List ℕ) → length events % 3 ≡ 0 → count ≡ length events / 3 → k ≤ count → count ≤ k
    → TakenFrom s im events k last m → Ends s im events k last m
all_end s im events k count last m whole ec low done h = taken_all s im events k last m whole (omega arith) h

-- a list of one event
alone : (r : Result Answer Refusal) (im : List ℕ) → ((tells_on r im (ended r)).last ≡ r) × ((tells_on r im (ended r)).image ≡ im)
alone (Ok a) im = (refl, refl)
alone (Err f) im = (refl, refl)

module _ (s : Shape) (im : List ℕ) (k d c n : ℕ) (last : Result Answer Refusal) (out : List ℕ) (e : Ends s im (k ∷ d ∷ c ∷ []) n last out) where
  pub one_outcome : outcome last out ≡ happening s im (event_of s k d c)
  unfolding Ends
  one_outcome =
      let o = happening s im (event_of s k d c) in
      let is = alone o.reply o.image in
      outcome_is _ _ _ (ap (λ t. t.last) (sym e) ∙ is.0) (ap (λ t. t.image) (sym e) ∙ is.1)

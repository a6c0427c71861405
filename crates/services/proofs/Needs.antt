-- What the calls of this crate ask and make, as laws over values. Assumes nothing.
use Rattle.std.specs.Prelude.{None, Some}
use mathlib.Core.Path.{◌≡◌, refl, sym, ap, ◌∙◌}
use mathlib.Core.List.{List}
use mathlib.Core.Bool.{Bool, true, false, ◌&&◌, and-eq-true_iff}
use mathlib.Core.Logic.{◌≢◌}
use Prim.Native.Nat.{ℕ, ◌<◌, ◌≤◌}
use native.Mathlib.Omega.{arith}
use borrow.Author.Tests.{lt-ltb, le-ltb, le-leb, lt-leb, eqb-true, eq-eqb, ne_eqb}
use lib.Dec.{eqb, leb, ltb}
use Rattle.paper.specs.Image.{task, most_character, at, put, reg, flags, status, peer, busy, character}
use Rattle.paper.specs.Queues.{part_of, Has, count, appended, first, taken, empty, full}
use Rattle.paper.specs.Flags.{flags_of, cc_of, cc as cc_in, error, waits}
use Rattle.paper.specs.Waking.{Answered, answered, with_status, left, woken, one_if, with_woken}
use Rattle.paper.specs.Services.{other, given, error_if, service_faulted, no_such_task, no_character, fault_of, buffer, blocks, blocked, awaited, waiting, delivered, printing, printing_if_idle, moves, moved, served, waits_for, wakes, finished, service}
use Rattle.paper.specs.declared.Task.{Task}
use Rattle.paper.specs.declared.Shape.{Shape}
use Rattle.paper.specs.declared.Queue.{Queue}
use Rattle.paper.specs.declared.Service.{Service}
use Rattle.paper.specs.declared.Answer.{Answer}
use Rattle.laws.specs.Cells.{cells}
use Rattle.laws.specs.Sound.{Sound, appended_some}
use Rattle.laws.specs.Frame.{Apart, frame_none, frame_put, frame_appended, kept_full}
use Rattle.laws.specs.Changes.{device_parts, moved_parts, frame_delivered}
use Rattle.laws.specs.Room.{Roomy, waiting_room}
use Rattle.services.specs.Done.{done}

-- what a tick comes to is its answer and its image
pub answers : {r q : Answer} {m l : List ℕ} → r ≡ q → m ≡ l → answered r m ≡ answered q l
answers er em = rw (er, em)

-- whether a task waits for another
pub tested : (s : Shape) (im : List ℕ) (j i : Task) (w k p : ℕ) (r : Bool) → k ≡ at s im (status j) → p ≡ at s im (peer j) → r ≡ (eqb k w && eqb p i.0)
    → r ≡ (eqb (at s im (status j)) w && eqb (at s im (peer j)) i.0)
tested s im j i w k p r ek ep er = rw (← ek, ← ep) er

-- a service faults
pub faulted : (s : Shape) (im out : List ℕ) (i : Task) (r : Answer) (f w e : ℕ) → r ≡ Answer.ServiceFaulted i → f ≡ at s im (flags i)
    → w ≡ flags_of (cc_of f) e 0 → out ≡ put s im (flags i) w → answered r out ≡ answered (Answer.ServiceFaulted i) (service_faulted s im i e)
unfolding service_faulted
faulted s im out i r f w e er ef ew eo = answers er (rw (← ef, ← ew) eo)

-- the first task waits
module _ (s : Shape) (im m : List ℕ) (i : Task) (k p : ℕ) (em : m ≡ with_status s im i k p) where
  pub still_some : i.0 < s.n → empty s im Queue.Ready ≡ false → empty s m Queue.Ready ≡ false
  unfolding empty with_status
  still_some hi h =
      let c : at s m (count s Queue.Ready) ≡ at s im (count s Queue.Ready) = rw em (search cells) in
      rw c h

  pub gone : (r : Answer) (out : List ℕ) → r ≡ Answer.ServiceWaits i → out ≡ left s m
      → answered r out ≡ answered (Answer.ServiceWaits i) (left s (with_status s im i k p))
  gone r out er eo = answers er (rw (← em) eo)

-- a word moves, and nothing is pending
module _ (s : Shape) (im m out : List ℕ) (i : Task) (q : Queue) (f w : ℕ) (ef : f ≡ flags_of (cc_in s im i) (error s im i) 0) (r : Answer)
    (er : r ≡ Answer.ServiceDone i) where
  pub passes : w ≡ given s im i → m ≡ appended s im q w → out ≡ put s m (flags i) f
      → answered r out ≡ answered (Answer.ServiceDone i) (done s im i (appended s im q (given s im i)))
  unfolding done
  passes ew em eo = answers er (rw (← ew, ← em, ← ef) eo)

  pub delivers : (l : List ℕ) → w ≡ first s im q → m ≡ taken s im q → l ≡ put s m (reg i 3) w → out ≡ put s l (flags i) f
      → answered r out ≡ answered (Answer.ServiceDone i) (done s im i (delivered s im i q))
  unfolding done delivered
  delivers l ew em el eo = answers er (rw (← ew, ← em, ← el, ← ef) eo)

-- words printed
pub prints : (s : Shape) (im m l out : List ℕ) (i : Task) (w : ℕ) → w ≡ first s im (Queue.Output i) → m ≡ taken s im (Queue.Output i)
    → l ≡ put s m (busy i) 1 → out ≡ put s l (character i) w → out ≡ printing s im i
unfolding printing
prints s im m l out i w ew em el eo = rw (← ew, ← em, ← el) eo

module _ (s : Shape) (im : List ℕ) (i : Task) (b : ℕ) (eb : b ≡ at s im (busy i)) where
  pub printed : (out : List ℕ) → b ≡ 0 → out ≡ printing s im i → out ≡ printing_if_idle s im i
  unfolding printing_if_idle
  printed out e eo = rw (← eb, eq-eqb b 0 e) eo

  pub not_printed : b ≢ 0 → im ≡ printing_if_idle s im i
  unfolding printing_if_idle
  not_printed ne = rw (← eb, ne_eqb b 0 ne)

-- after a word is appended a queue is not empty
module _ (s : Shape) (im m : List ℕ) (i : Task) (w : ℕ) (h : Sound s im) (hi : i.0 < s.n) where
  pub then_some : m ≡ appended s im (Queue.Output i) w → empty s m (Queue.Output i) ≡ false
  then_some em = rw em (appended_some s im h (Queue.Output i) hi w)

-- what a service comes to whose number is not wrong: the buffer first
module _ (s : Shape) (im : List ℕ) (i : Task) (v : Service) (right : fault_of s im i v ≡ None) (b : Bool) (eb : b ≡ blocked s im i v) where
  pub comes_to_wait : (o : Answered) (p : ℕ) → b ≡ true → p ≡ awaited s im i v → o ≡ answered (Answer.ServiceWaits i) (left s (with_status s im i (waits v) p))
      → o ≡ service s im i v
  unfolding service waiting
  comes_to_wait o p t ep eo = rw (right, ← eb, t, ← ep) eo

  -- then the word moves, and nobody is woken
  pub comes_to_pass : (o : Answered) → b ≡ false → wakes s im i v ≡ None → o ≡ answered (Answer.ServiceDone i) (done s im i (moved s im i v)) → o ≡ service s im i v
  unfolding service finished with_woken served done
  comes_to_pass o t nobody eo = rw (right, ← eb, t, nobody) eo

  -- or a task is
  pub comes_to_wake : (o : Answered) → b ≡ false → (j : Task) → wakes s im i v ≡ Some j → o ≡ answered (Answer.ServiceDone i) (woken s (done s im i (moved s im i v)) j)
      → o ≡ service s im i v
  unfolding service finished with_woken served done
  comes_to_wake o t j one eo = rw (right, ← eb, t, one) eo

-- send and receive: what service v comes to between task i and the one that R2 names, k, which may wait with the counterpart
abbrev counterpart : Service → Service
counterpart Service.Send = Service.Receive
counterpart Service.Receive = Service.Send
counterpart Service.Input = Service.Input
counterpart Service.Output = Service.Output

pub record Between (s : Shape) (im : List ℕ) (i : Task) (v : Service) : Type 0 where
  pub names : fault_of s im i v ≡ error_if (leb s.n (other s im i).0) no_such_task
  pub awaits : awaited s im i v ≡ (other s im i).0
  pub wakes_other : wakes s im i v ≡ one_if (waits_for s im (other s im i) (counterpart v) i) (other s im i)

pub sends : (s : Shape) (im : List ℕ) (i : Task) → Between s im i Service.Send
sends s im i = record { names = refl; awaits = refl; wakes_other = refl }

pub receives : (s : Shape) (im : List ℕ) (i : Task) → Between s im i Service.Receive
receives s im i = record { names = refl; awaits = refl; wakes_other = refl }

module _ (s : Shape) (im : List ℕ) (i : Task) (k : ℕ) (ek : k ≡ at s im (reg i 2)) where
  pub sends_to : Queue.Message i (task k) ≡ buffer s im i Service.Send
  sends_to = rw (← ek)

  pub gets_from : Queue.Message (task k) i ≡ buffer s im i Service.Receive
  gets_from = rw (← ek)

  module _ (v : Service) (between : Between s im i v) where
    pub unnamed : (o : Answered) → s.n ≤ k → o ≡ answered (Answer.ServiceFaulted i) (service_faulted s im i no_such_task) → o ≡ service s im i v
    unfolding service
    unnamed o h eo = rw (between.names, ← ek, le-leb s.n k h) eo

    module _ (h : k < s.n) (b : Bool) (q : Queue) (eb : b ≡ blocks v s im q) (eq : q ≡ buffer s im i v) where
      right : fault_of s im i v ≡ None
      right = rw (between.names, ← ek, lt-leb s.n k h)

      buffered : b ≡ blocked s im i v
      buffered = rw (← eq) eb

      pub other_waits : (o : Answered) → b ≡ true → o ≡ answered (Answer.ServiceWaits i) (left s (with_status s im i (waits v) k)) → o ≡ service s im i v
      other_waits o t eo = comes_to_wait s im i v right b buffered o k t (rw (between.awaits, ← ek)) eo

      module _ (t : b ≡ false) (a : Bool) (ea : a ≡ (eqb (at s im (status (task k))) (waits (counterpart v)) && eqb (at s im (peer (task k))) i.0)) where
        test : wakes s im i v ≡ one_if a (task k)
        unfolding waits_for
        test = rw (between.wakes_other, ← ek, ← ea)

        pub moved_alone : (o : Answered) → a ≡ false → o ≡ answered (Answer.ServiceDone i) (done s im i (moves v s im i q)) → o ≡ service s im i v
        moved_alone o ta eo =
            let nobody : wakes s im i v ≡ None = test ∙ rw ta in
            comes_to_pass s im i v right b buffered o t nobody (rw (← eq) eo)

        module _ (ta : a ≡ true) (r : Answer) (m : List ℕ) (em : answered r m ≡ answered (Answer.ServiceDone i) (done s im i (moves v s im i q))) where
          passed : m ≡ done s im i (moved s im i v)
          passed = rw (← eq) (ap (λ (o : Answered). o.image) em)

          pub moved_waking : (out : List ℕ) → out ≡ woken s m (task k) → answered r out ≡ service s im i v
          moved_waking out eo =
              comes_to_wake s im i v right b buffered (answered r out) t (task k) (test ∙ rw ta)
              (answers (ap (λ (o : Answered). o.answer) em) (eo ∙ ap (λ (l : List ℕ). woken s l (task k)) passed))

-- a task that waits finds room, also once a word has moved
module _ (s : Shape) (im m : List ℕ) (i j : Task) (r : Answer) (q : Queue) (h : Sound s im) (hi : i.0 < s.n) (hq : Has s q) (hj : j.0 < s.n) (roomy : Roomy s im)
    (v : Service) (a : Bool) (ea : a ≡ (eqb (at s im (status j)) (waits v) && eqb (at s im (peer j)) i.0)) (ta : a ≡ true) where
  room_done : (l : List ℕ) → Apart s moved_parts im l → answered r m ≡ answered (Answer.ServiceDone i) (done s im i l) → full s m Queue.Ready ≡ false
  unfolding done
  room_done l a em =
      rw (ap (λ (o : Answered). o.image) em) (kept_full moved_parts (frame_put a (flags i) _ (hi, omega arith) refl) Queue.Ready tt refl) ∙
      waiting_room s im roomy j hj v (eqb-true (at s im (status j)) (waits v) ((and-eq-true_iff _ _).0 (sym ea ∙ ta)).0)

  pub room_sent : answered r m ≡ answered (Answer.ServiceDone i) (done s im i (appended s im q (given s im i))) → moved_parts (part_of q) ≡ true → full s m Queue.Ready ≡ false
  room_sent em p = room_done _ (frame_appended frame_none q hq h (λ j. p) _) em

  pub room_got : answered r m ≡ answered (Answer.ServiceDone i) (done s im i (delivered s im i q)) → device_parts (part_of q) ≡ true → full s m Queue.Ready ≡ false
  room_got em p = room_done _ (frame_delivered frame_none h i hi (λ c t. rw t) (λ j. refl) q hq p) em

-- output: R3 holds more than a character, or one
module _ (s : Shape) (im : List ℕ) (i : Task) (w : ℕ) (ew : w ≡ given s im i) where
  pub too_large : (o : Answered) → most_character < w → o ≡ answered (Answer.ServiceFaulted i) (service_faulted s im i no_character) → o ≡ service s im i Service.Output
  unfolding service
  too_large o h eo = rw (← ew, lt-ltb most_character w h) eo

  pub small_enough : w ≤ most_character → error_if (ltb most_character (given s im i)) no_character ≡ None
  small_enough h = rw (← ew, le-ltb most_character w h)

  pub put_out : (m l out : List ℕ) (r : Answer) (f : ℕ) → r ≡ Answer.ServiceDone i → f ≡ flags_of (cc_in s im i) (error s im i) 0
      → m ≡ appended s im (Queue.Output i) w → l ≡ printing_if_idle s m i → out ≡ put s l (flags i) f
      → answered r out ≡ answered (Answer.ServiceDone i) (done s im i (printing_if_idle s (appended s im (Queue.Output i) (given s im i)) i))
  unfolding done
  put_out m l out r f er ef em el eo = answers er (rw (← ew, ← em, ← el, ← ef) eo)

-- a number that is none of the first three is the last
pub last_number : (p : ℕ) → (1 ≤ p) × (p ≤ 4) → ((Unit {0} × (p ≢ 1)) × (p ≢ 2)) × (p ≢ 3) → p ≡ 4
last_number p (lo, hi) (((_, a), b), c) = omega arith

-- what a test of a buffer tells
module _ (s : Shape) (im : List ℕ) (q : Queue) (b : Bool) (t : b ≡ false) where
  pub not_full : b ≡ full s im q → full s im q ≡ false
  not_full e = sym e ∙ t

  pub not_empty : b ≡ empty s im q → empty s im q ≡ false
  not_empty e = sym e ∙ t

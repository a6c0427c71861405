-- Each branch of this crate's functions comes to what the definition says there. Assumes nothing.
use mathlib.Core.Path.{◌≡◌, refl, sym, ◌∙◌}
use mathlib.Core.List.{List}
use mathlib.Core.Bool.{Bool, true, false, cond, ◌&&◌}
use mathlib.Core.Logic.{◌≢◌}
use Prim.Native.Nat.{ℕ, zero, suc, ◌-◌, ◌/◌, ◌<◌, ◌≤◌}
use native.Mathlib.Omega.{arith}
use borrow.Author.Tests.{eqb-true, eqb-false, eq-eqb, ne_eqb}
use lib.Dec.{eqb, leb, ltb}
use Rattle.paper.specs.Image.{task, at, put, clock, flags, status, busy, character}
use Rattle.paper.specs.Queues.{count, capacity, appended, taken, empty, full}
use Rattle.paper.specs.Flags.{error_of, pending_of, waits}
use Rattle.paper.specs.Waking.{Answered, answered, Outcome, accepted, refused, left, woken, one_if, with_woken}
use Rattle.paper.specs.Services.{asked, printing}
use Rattle.paper.specs.Rules.{Flagged}
use Rattle.paper.specs.Events.{is_tick, is_input, is_output_done, event_of, stopped, turned, acting, turn_of, input, port_next, output_done, happening}
use Rattle.paper.specs.declared.Task.{Task}
use Rattle.paper.specs.declared.Shape.{Shape}
use Rattle.paper.specs.declared.Queue.{Queue}
use Rattle.paper.specs.declared.Service.{Service}
use Rattle.paper.specs.declared.Event.{Event}
use Rattle.paper.specs.declared.Answer.{Answer}
use Rattle.paper.specs.declared.Refusal.{Refusal}
use Rattle.laws.specs.Cells.{cells}
use Rattle.laws.specs.Queues.{taken_count, taken_rest}
use Rattle.laws.specs.Sound.{Sound, sound}
use Rattle.laws.specs.Events.{Formed}
use Rattle.laws.specs.Room.{Roomy, waiting_room}
use Rattle.laws.specs.Frame.{Apart, frame_none, frame_appended, kept_full}
use Rattle.laws.specs.Changes.{device_parts, frame_next}
use Rattle.services.proofs.Needs.{answers}

-- three tests, as the code joins them
three : (a b c p t : Bool) → p ≡ (b && c) → t ≡ (a && p) → (a && b && c) ≡ t
three true b c p t ep et = sym ep ∙ sym et
three false b c p t ep et = sym et

-- the event of three words, as the tests tell
module _ (s : Shape) (k d c : ℕ) (p t : Bool) (ep : p ≡ (eqb d 0 && eqb c 0)) (et : t ≡ (eqb k 0 && p)) where
  tick_test : is_tick k d c ≡ t
  tick_test = three (eqb k 0) (eqb d 0) (eqb c 0) p t ep et

  pub tick_made : t ≡ true → Event.Tick ≡ event_of s k d c
  unfolding event_of
  tick_made h = rw (tick_test, h)

  module _ (h : t ≡ false) (q u : Bool) (eq : q ≡ (ltb d s.n && leb c 255)) (eu : u ≡ (eqb k 1 && q)) where
    input_test : is_input s k d c ≡ u
    input_test = three (eqb k 1) (ltb d s.n) (leb c 255) q u eq eu

    pub input_made : u ≡ true → Event.Input (task d) c ≡ event_of s k d c
    unfolding event_of
    input_made g = rw (tick_test, h, input_test, g)

    module _ (g : u ≡ false) (r v : Bool) (er : r ≡ (ltb d s.n && eqb c 0)) (ev : v ≡ (eqb k 2 && r)) where
      done_test : is_output_done s k d c ≡ v
      done_test = three (eqb k 2) (ltb d s.n) (eqb c 0) r v er ev

      pub done_made : v ≡ true → Event.OutputDone (task d) ≡ event_of s k d c
      unfolding event_of
      done_made f = rw (tick_test, h, input_test, g, done_test, f)

      pub malformed : v ≡ false → Event.Malformed ≡ event_of s k d c
      unfolding event_of
      malformed f = rw (tick_test, h, input_test, g, done_test, f)

-- rule 2
module _ (s : Shape) (im m : List ℕ) (i : Task) (hi : i.0 < s.n) where
  pub still_some : m ≡ put s im (status i) 5 → empty s im Queue.Ready ≡ false → empty s m Queue.Ready ≡ false
  unfolding empty
  still_some em h =
      let c : at s m (count s Queue.Ready) ≡ at s im (count s Queue.Ready) = rw em (search cells) in
      rw c h

pub stops : (s : Shape) (im m out : List ℕ) (i : Task) → m ≡ put s im (status i) 5 → out ≡ left s m → out ≡ stopped s im i
unfolding stopped
stops s im m out i em eo = rw (← em) eo

-- rule 3: what is taken leaves room
module _ (s : Shape) (im m : List ℕ) (h : Sound s im) where
  pub room_again : m ≡ taken s im Queue.Ready → empty s im Queue.Ready ≡ false → full s m Queue.Ready ≡ false
  unfolding empty full
  room_again em some =
      let r = (sound h).queues Queue.Ready tt in
      let a : at s m (count s Queue.Ready) ≡ at s im (count s Queue.Ready) - 1 = rw em (taken_count s im Queue.Ready tt (sound h).laid.words r) in
      let b : at s m (capacity s Queue.Ready) ≡ at s im (capacity s Queue.Ready) =
      rw em (taken_rest s im Queue.Ready tt (sound h).laid.words r 3 (omega arith) (omega arith) (omega arith) (omega arith)) in
      ne_eqb (at s m (count s Queue.Ready)) (at s m (capacity s Queue.Ready))
      (λ e. eqb-false (at s im (count s Queue.Ready)) 0 some (omega (arith, r.counted)))

pub turns : (s : Shape) (im m l out : List ℕ) (i : Task) → m ≡ taken s im Queue.Ready → l ≡ appended s m Queue.Ready i.0 → out ≡ put s l clock s.slice
    → out ≡ turned s im i
unfolding turned
turns s im m l out i em el eo = rw (← em, ← el) eo

-- where a service is pending there is no error
no_error : (e p : ℕ) → 1 ≤ p → (e ≢ 0 → p ≡ 0) → e ≡ 0
no_error zero p lo h = refl
no_error (suc e) p lo h =
    let z : p ≡ 0 = h (λ q. omega arith) in
    omega arith

-- rules 2 to 4, as the flags and the clock tell
module _ (s : Shape) (im : List ℕ) (i : Task) (f : ℕ) (ef : f ≡ at s im (flags i)) where
  module _ (lo : 4 ≤ f) (hi : f < 32) where
    wrong : eqb (error_of f) 0 ≡ false
    wrong = ne_eqb (error_of f) 0 (λ z. omega arith)

    pub comes_to_stop : (r : Answer) (out : List ℕ) → r ≡ Answer.ErrorStop i → out ≡ stopped s im i → answered r out ≡ turn_of s im i
    unfolding turn_of
    comes_to_stop r out er eo = rw (← ef, wrong) (answers er eo)

  module _ (fl : Flagged s im i) where
    pub service_known : f / 32 ≤ 4
    service_known = rw ef fl.pending_range

  module _ (fl : Flagged s im i) (hi : 32 ≤ f) where
    right : eqb (error_of f) 0 ≡ true
    right = eq-eqb (error_of f) 0 (no_error (error_of f) (pending_of f) (omega arith) (λ n. rw ef (fl.never_both (rw (← ef) n))))

    module _ (k : ℕ) (ek : k ≡ at s im clock) where
      pub comes_to_turn : (r : Answer) (out : List ℕ) → k ≡ 0 → r ≡ Answer.TurnPassed i → out ≡ turned s im i → answered r out ≡ turn_of s im i
      unfolding turn_of
      comes_to_turn r out kz er eo = rw (← ef, right, ← ek, eq-eqb k 0 kz) (answers er eo)

      pub comes_to_serve : (o : Answered) → k ≢ 0 → o ≡ acting s im i (asked (f / 32)) → o ≡ turn_of s im i
      unfolding turn_of
      comes_to_serve o kn eo = rw (← ef, right, ← ek, ne_eqb k 0 kn) eo

-- a port's test, by its word
module _ (s : Shape) (im : List ℕ) (i : Task) (b : ℕ) (eb : b ≡ at s im (busy i)) where
  pub port_idle : b ≡ 0 → eqb (at s im (busy i)) 0 ≡ true
  port_idle e = rw (← eb) (eq-eqb b 0 e)

  pub port_busy : b ≢ 0 → eqb (at s im (busy i)) 0 ≡ false
  port_busy e = rw (← eb) (ne_eqb b 0 e)

-- an event of a device: refused by a test of its own, or else a word moves, which makes im into m, and the owner is woken if it waits with service v
unfoldable pub moved_or_refused : Shape → List ℕ → Task → Bool → Refusal → Service → Answer → List ℕ → Outcome
moved_or_refused s im i b f v a m =
    cond b (refused f im) (accepted a (with_woken s m (one_if (eqb (at s im (status i)) (waits v)) i)))

pub input_is : (s : Shape) (im : List ℕ) (i : Task) (c : ℕ)
    → input s im i c ≡ moved_or_refused s im i (full s im (Queue.Input i)) Refusal.InputFull Service.Input (Answer.Input i) (appended s im (Queue.Input i) c)
unfolding input moved_or_refused
input_is s im i c = refl

pub output_done_is : (s : Shape) (im : List ℕ) (i : Task)
    → output_done s im i ≡ moved_or_refused s im i (eqb (at s im (busy i)) 0) Refusal.PortIdle Service.Output (Answer.OutputDone i) (port_next s im i)
unfolding output_done moved_or_refused
output_done_is s im i = refl

module _ (s : Shape) (im : List ℕ) (i : Task) (b : Bool) (f : Refusal) (v : Service) (a : Answer) (m : List ℕ) (o : Outcome) (eo : o ≡ moved_or_refused s im i b f v a m) where
  pub refused_by_test : b ≡ true → refused f im ≡ o
  unfolding moved_or_refused
  refused_by_test t = sym (eo ∙ rw t)

  module _ (t : b ≡ false) (k : ℕ) (ek : k ≡ at s im (status i)) (l : List ℕ) (el : l ≡ m) where
    pub moved_alone : eqb k (waits v) ≡ false → accepted a l ≡ o
    unfolding moved_or_refused with_woken
    moved_alone g = sym (eo ∙ rw (t, ← ek, g, el))

    pub moved_waking : eqb k (waits v) ≡ true → (out : List ℕ) → out ≡ woken s l i → accepted a out ≡ o
    unfolding moved_or_refused with_woken
    moved_waking g out ei = rw (ei, el) (sym (eo ∙ rw (t, ← ek, g)))

-- an owner that waits finds room, also once a word has moved
module _ (s : Shape) (im m : List ℕ) (i : Task) (h : Sound s im) (hi : i.0 < s.n) (roomy : Roomy s im) (v : Service) (k : ℕ) (ek : k ≡ at s im (status i)) (g : eqb k (waits v) ≡ true) where
  owner_room : Apart s device_parts im m → full s m Queue.Ready ≡ false
  owner_room a = kept_full device_parts a Queue.Ready tt refl ∙ waiting_room s im roomy i hi v (sym ek ∙ eqb-true k (waits v) g)

  pub input_room : (c : ℕ) → m ≡ appended s im (Queue.Input i) c → full s m Queue.Ready ≡ false
  input_room c em = owner_room (rw em (frame_appended frame_none (Queue.Input i) hi h (λ r. refl) c))

  pub port_room : m ≡ port_next s im i → full s m Queue.Ready ≡ false
  port_room em = owner_room (rw em (frame_next frame_none h i hi (λ r. refl) (λ r. refl)))

-- the port goes on
module _ (s : Shape) (im : List ℕ) (i : Task) (b : Bool) (eb : b ≡ empty s im (Queue.Output i)) where
  pub port_idles : (m out : List ℕ) → b ≡ true → m ≡ put s im (busy i) 0 → out ≡ put s m (character i) 0 → out ≡ port_next s im i
  unfolding port_next
  port_idles m out t em eo = rw (← eb, t, ← em) eo

  pub some_output : b ≡ false → empty s im (Queue.Output i) ≡ false
  some_output t = sym eb ∙ t

  pub port_prints : (out : List ℕ) → b ≡ false → out ≡ printing s im i → out ≡ port_next s im i
  unfolding port_next
  port_prints out t eo = rw (← eb, t) eo

-- an event that is no tick, by what it is
module _ (s : Shape) (im : List ℕ) (e : Event) where
  pub input_task : (i : Task) (c : ℕ) → e ≡ Event.Input i c → Formed s e → i.0 < s.n
  unfolding Formed
  input_task i c f h = (rw f at h).0

  pub done_task : (i : Task) → e ≡ Event.OutputDone i → Formed s e → i.0 < s.n
  unfolding Formed
  done_task i f h = rw f at h

  pub input_happens : (i : Task) (c : ℕ) (o : Outcome) → e ≡ Event.Input i c → o ≡ input s im i c → o ≡ happening s im e
  unfolding happening
  input_happens i c o f eo = rw f eo

  pub done_happens : (i : Task) (o : Outcome) → e ≡ Event.OutputDone i → o ≡ output_done s im i → o ≡ happening s im e
  unfolding happening
  done_happens i o f eo = rw f eo

  pub malformed_happens : e ≡ Event.Malformed → refused Refusal.MalformedEvent im ≡ happening s im e
  unfolding happening
  malformed_happens f = rw f

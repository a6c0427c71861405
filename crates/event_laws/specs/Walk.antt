-- Every outcome of an event, told apart once: what holds of each holds of the event. Assumes nothing.
use Rattle.std.specs.Prelude.{◌≡◌, List, [], ◌∷◌, true, false, cond, ◌≢◌, ℕ, zero, suc, ◌-◌, ◌<◌, ◌≤◌, eqb, length, Err, None, Ok, Option, Result, Some}
use Rattle.std.proofs.Math.Path.{refl}
use Rattle.std.proofs.Common.{arith, eqb-true}
use Rattle.std.proofs.lemmas.Bool.{eqb-false}
use Rattle.paper.specs.Image.{at, clock, status, busy}
use Rattle.paper.specs.Queues.{appended, empty, full}
use Rattle.paper.specs.Flags.{error, pending, waits}
use Rattle.paper.specs.Waking.{Answered, answered, Outcome, accepted, accepting, refused, woken, one_if, with_woken}
use Rattle.paper.specs.Services.{services, numbered, asked, fault_of, unless_wrong, service_faulted, blocked, waiting, served, wakes, finished, service}
use Rattle.paper.specs.Orders.{order, after_order, order_answer}
use Rattle.paper.specs.Events.{running, stopped, turned, spent, serving, ordered, tick, input, port_next, output_done, happening}
use Rattle.paper.specs.declared.Task.{Task}
use Rattle.paper.specs.declared.Shape.{Shape}
use Rattle.paper.specs.declared.Queue.{Queue}
use Rattle.paper.specs.declared.Service.{Service}
use Rattle.paper.specs.declared.Event.{Event}
use Rattle.paper.specs.declared.Change.{Change}
use Rattle.paper.specs.declared.Answer.{Answer}
use Rattle.paper.specs.declared.Refusal.{Refusal}
use Rattle.laws.specs.Cases.{when}
use Rattle.laws.specs.Cells.{at_same}
use Rattle.laws.specs.Sound.{Sound, sound}
use Rattle.laws.specs.Frame.{Frame, frame_none, frame_put}

-- what pending asks for
pub asked_for : (p : ℕ) (v : Service) → asked p ≡ Some v → p ≡ waits v
asked_for zero v e = absurd (let z : ◌≡◌ {A = ℕ} 0 1 = cc in omega arith)
asked_for (suc zero) v e = let z : Service.Send ≡ v = cc in rw (← z)
asked_for (suc (suc zero)) v e = let z : Service.Receive ≡ v = cc in rw (← z)
asked_for (suc (suc (suc zero))) v e = let z : Service.Input ≡ v = cc in rw (← z)
asked_for (suc (suc (suc (suc zero)))) v e = let z : Service.Output ≡ v = cc in rw (← z)
asked_for (suc (suc (suc (suc (suc k))))) v e = absurd (let z : ◌≡◌ {A = ℕ} 0 1 = cc in omega arith)

pub asked_waits : (v : Service) → asked (waits v) ≡ Some v
asked_waits Service.Send = refl
asked_waits Service.Receive = refl
asked_waits Service.Input = refl
asked_waits Service.Output = refl

numbered_some : (vs : List Service) (k : ℕ) → k < length vs → numbered vs k ≢ None
numbered_some [] k h e = omega arith
numbered_some (v ∷ vs) zero h e = let z : ◌≡◌ {A = ℕ} 0 1 = cc in omega arith
numbered_some (v ∷ vs) (suc k) h e = numbered_some vs k (omega arith) e

pub asked_nothing : (p : ℕ) → p ≤ length services → asked p ≡ None → p ≡ 0
asked_nothing zero l e = refl
asked_nothing (suc k) l e = absurd (numbered_some services k (omega arith) e)

-- the image m of an event, with whom it wakes woken
module _ (s : Shape) (m : List ℕ) (P : List ℕ → Type 0) where
  wakes_any : (w : Option Task) → (w ≡ None → P m) → ((k : Task) → w ≡ Some k → P (woken s m k)) → P (with_woken s m w)
  unfolding with_woken
  wakes_any None alone woke = alone refl
  wakes_any (Some k) alone woke = woke k refl

  owner_any : (im : List ℕ) (i : Task) (v : Service) → (at s im (status i) ≢ waits v → P m) → (at s im (status i) ≡ waits v → P (woken s m i))
      → P (with_woken s m (one_if (eqb (at s im (status i)) (waits v)) i))
  unfolding with_woken
  owner_any im i v alone woke =
      when (λ w. P (with_woken s m w)) (eqb (at s im (status i)) (waits v)) (λ e. woke (eqb-true _ _ e)) (λ e. alone (eqb-false _ _ e))

-- what a service v of task i comes to from image m: faulted, waiting, done, or done with a task woken
pub record ServiceCases (s : Shape) (m : List ℕ) (i : Task) (v : Service) (P : Answered → Type 0) : Type 0 where
  pub faults : (e : ℕ) → fault_of s m i v ≡ Some e → P (answered (Answer.ServiceFaulted i) (service_faulted s m i e))
  pub stuck : fault_of s m i v ≡ None → blocked s m i v ≡ true → P (answered (Answer.ServiceWaits i) (waiting s m i v))
  pub alone : fault_of s m i v ≡ None → blocked s m i v ≡ false → wakes s m i v ≡ None → P (answered (Answer.ServiceDone i) (served s m i v))
  pub woke : (k : Task) → fault_of s m i v ≡ None → blocked s m i v ≡ false → wakes s m i v ≡ Some k
      → P (answered (Answer.ServiceDone i) (woken s (served s m i v) k))

service_any : {s : Shape} {m : List ℕ} {i : Task} {v : Service} (P : Answered → Type 0) → ServiceCases s m i v P → P (service s m i v)
unfolding service finished
service_any {s} {m} {i} {v} P c = go (fault_of s m i v) refl
  where
    go : (x : Option ℕ) → fault_of s m i v ≡ x
        → P (unless_wrong x s m i (cond (blocked s m i v) (answered (Answer.ServiceWaits i) (waiting s m i v)) (finished s m i v)))
    go (Some e) f = c.faults e f
    go None f =
        when P (blocked s m i v) (c.stuck f) (λ e.
        wakes_any s (served s m i v) (λ n. P (answered (Answer.ServiceDone i) n)) (wakes s m i v) (c.alone f e) (λ k. c.woke k f e))

-- an image that differs from im in the clock alone, which is v
pub record ButClock (s : Shape) (im : List ℕ) (v : ℕ) (m : List ℕ) : Type 0 where
  pub but_clock : Frame s (λ c. c ≡ clock) im m
  pub clock_is : Sound s im → at s m clock ≡ v

spends : (s : Shape) (m : List ℕ) → ButClock s m (at s m clock - 1) (spent s m)
unfolding spent
spends s m =
    record { but_clock = frame_put frame_none clock _ (omega arith, omega arith) refl; clock_is = λ h. at_same s m clock _ (omega arith, omega arith) (sound h).laid.words }

-- rule 4 does its service from such an image, the clock fallen by 1
abbrev pub Begins : Shape → List ℕ → List ℕ → Type 0
Begins s im m = ButClock s im (at s im clock - 1) m

pub serving_any : {s : Shape} {im : List ℕ} {i : Task} {v : Service} (P : Answered → Type 0) → ((m : List ℕ) → Begins s im m → ServiceCases s m i v P)
    → P (serving s im i v)
serving_any {s} {im} P c = service_any P (c (spent s im) (spends s im))

-- rule 5 leaves the image after the task's order but for the clock, which has fallen by 1
abbrev pub Spends : Shape → List ℕ → Task → List ℕ → Type 0
Spends s im i m = ButClock s (after_order s im i (order s im i)) (at s (after_order s im i (order s im i)) clock - 1) m

-- what it comes to, leaving m: the order of task i is done, or it faulted
pub record OrderCases (s : Shape) (im m : List ℕ) (i : Task) (P : Answered → Type 0) : Type 0 where
  pub does : (next : ℕ) (c : Change) → order s im i ≡ Ok (next, c) → P (answered (Answer.OrderDone i) m)
  pub faults : (e : ℕ) → order s im i ≡ Err e → P (answered (Answer.OrderFaulted i) m)

order_any : {s : Shape} {im m : List ℕ} {i : Task} (P : Answered → Type 0) → OrderCases s im m i P → (e : Result (ℕ × Change) ℕ) → order s im i ≡ e → P (answered (order_answer i e) m)
order_any P c (Ok (next, f)) e = c.does next f e
order_any P c (Err f) e = c.faults f e

pub ordered_any : {s : Shape} {im : List ℕ} {i : Task} (P : Answered → Type 0) → ((m : List ℕ) → Spends s im i m → OrderCases s im m i P)
    → P (ordered s im i (order s im i))
unfolding ordered
ordered_any {s} {im} {i} P c =
    let m = after_order s im i (order s im i) in
    order_any P (c (spent s m) (spends s m)) (order s im i) refl

-- what a tick comes to, rule by rule
pub record TickCases (s : Shape) (im : List ℕ) (P : Answered → Type 0) : Type 0 where
  pub idle : empty s im Queue.Ready ≡ true → P (answered Answer.Idle im)
  pub stops : empty s im Queue.Ready ≡ false → error s im (running s im) ≢ 0 → P (answered (Answer.ErrorStop (running s im)) (stopped s im (running s im)))
  pub turns : empty s im Queue.Ready ≡ false → error s im (running s im) ≡ 0 → at s im clock ≡ 0 → P (answered (Answer.TurnPassed (running s im)) (turned s im (running s im)))
  pub serves : empty s im Queue.Ready ≡ false → error s im (running s im) ≡ 0 → at s im clock ≢ 0 → (v : Service) → pending s im (running s im) ≡ waits v
      → (m : List ℕ) → Begins s im m → ServiceCases s m (running s im) v P
  pub orders : empty s im Queue.Ready ≡ false → error s im (running s im) ≡ 0 → at s im clock ≢ 0 → asked (pending s im (running s im)) ≡ None
      → (m : List ℕ) → Spends s im (running s im) m → OrderCases s im m (running s im) P

-- what an event of a device comes to
module _ (s : Shape) (im : List ℕ) (i : Task) (P : Outcome → Type 0) where
  pub input_any : (c : ℕ) → (full s im (Queue.Input i) ≡ true → P (refused Refusal.InputFull im))
      → (full s im (Queue.Input i) ≡ false → at s im (status i) ≢ waits Service.Input → P (accepted (Answer.Input i) (appended s im (Queue.Input i) c)))
      → (full s im (Queue.Input i) ≡ false → at s im (status i) ≡ waits Service.Input → P (accepted (Answer.Input i) (woken s (appended s im (Queue.Input i) c) i)))
      → P (input s im i c)
  unfolding input
  input_any c stopped alone woke =
      when P (full s im (Queue.Input i)) stopped (λ e. owner_any s (appended s im (Queue.Input i) c) (λ m. P (accepted (Answer.Input i) m)) im i Service.Input (alone e) (woke e))

  pub done_any : (at s im (busy i) ≡ 0 → P (refused Refusal.PortIdle im))
      → (at s im (busy i) ≢ 0 → at s im (status i) ≢ waits Service.Output → P (accepted (Answer.OutputDone i) (port_next s im i)))
      → (at s im (busy i) ≢ 0 → at s im (status i) ≡ waits Service.Output → P (accepted (Answer.OutputDone i) (woken s (port_next s im i) i)))
      → P (output_done s im i)
  unfolding output_done
  done_any idle alone woke =
      when P (eqb (at s im (busy i)) 0) (λ e. idle (eqb-true _ 0 e)) (λ e.
      owner_any s (port_next s im i) (λ m. P (accepted (Answer.OutputDone i) m)) im i Service.Output (alone (eqb-false _ 0 e)) (woke (eqb-false _ 0 e)))

-- and any event
pub event_any : (s : Shape) (im : List ℕ) (P : Event → Outcome → Type 0) → P Event.Tick (accepting (tick s im)) → ((i : Task) (c : ℕ) → P (Event.Input i c) (input s im i c))
    → ((i : Task) → P (Event.OutputDone i) (output_done s im i)) → P Event.Malformed (refused Refusal.MalformedEvent im) → (e : Event) → P e (happening s im e)
unfolding happening
event_any s im P ticks inputs dones others Event.Tick = ticks
event_any s im P ticks inputs dones others (Event.Input i c) = inputs i c
event_any s im P ticks inputs dones others (Event.OutputDone i) = dones i
event_any s im P ticks inputs dones others Event.Malformed = others

-- every outcome is accepted, or refused with the image as it was
module _ (s : Shape) (im : List ℕ) (P : Outcome → Type 0) (taken : (a : Answer) (m : List ℕ) → P (accepted a m)) (kept : (r : Refusal) → P (refused r im)) where
  pub made_any : (e : Event) → P (happening s im e)
  made_any =
      event_any s im (λ _ o. P o) (taken _ _) (λ i c. input_any s im i P c (λ _. kept _) (λ _ _. taken _ _) (λ _ _. taken _ _))
      (λ i. done_any s im i P (λ _. kept _) (λ _ _. taken _ _) (λ _ _. taken _ _)) (kept _)

-- so a refusal alters nothing
pub happening_unchanged : (s : Shape) (im : List ℕ) (e : Event) (r : Refusal) → (happening s im e).reply ≡ Err r → (happening s im e).image ≡ im
happening_unchanged s im e =
    made_any s im (λ o. (r : Refusal) → o.reply ≡ Err r → o.image ≡ im) (λ a m r z. absurd (let y : ◌≡◌ {A = ℕ} 0 1 = cc in omega arith)) (λ q r z. refl) e

-- Whom an event wakes is not ready, so it finds room; any other task that is not ready stays as it is. Assumes nothing.
use Rattle.std.specs.Prelude.{◌≡◌, List, Bool, true, false, ◌||◌, ◌≢◌, ◌↔◌, ◌⊎◌, ℕ, ◌<◌, ◌≤◌, eqb, length, None, Option, Some}
use Rattle.std.proofs.Math.Path.{refl, sym}
use Rattle.std.proofs.Common.{ap, ◌∙◌, true≢false, inl, inr, ⊎_elim, arith}
use Rattle.std.proofs.Math.Logic.{dite}
use Rattle.std.proofs.Math.Decide.{ℕ_discrete}
use borrow.Author.Tests.{eqb-true, eq-eqb, ne_eqb}
use Rattle.paper.specs.Image.{ord, cell, at, clock, reg, flags, status, peer}
use Rattle.paper.specs.Queues.{Has, header_capacity, appended, held, full}
use Rattle.paper.specs.Flags.{error, is_ready, waits}
use Rattle.paper.specs.Waking.{woken, one_if}
use Rattle.paper.specs.Services.{service_faulted, fault_of, blocked, awaited, waiting, wakes, served}
use Rattle.paper.specs.Events.{running, tick, input, port_next, output_done, happening}
use Rattle.paper.specs.Rules.{Empty, Full, times, Good}
use Rattle.paper.specs.declared.Task.{Task}
use Rattle.paper.specs.declared.Shape.{Shape}
use Rattle.paper.specs.declared.Cell.{Cell}
use Rattle.paper.specs.declared.Part.{Part}
use Rattle.paper.specs.declared.Queue.{Queue}
use Rattle.paper.specs.declared.Service.{Service}
use Rattle.paper.specs.declared.Event.{Event}
use Rattle.laws.specs.Queues.{same_task}
use Rattle.laws.specs.Sound.{Sound, has_space, appended_sound}
use Rattle.laws.specs.Checked.{good_sound}
use Rattle.laws.specs.Events.{Formed}
use Rattle.laws.specs.Frame.{Frame, frame_none, frame_more, frame_put, frame_appended, kept_status}
use Rattle.laws.specs.Changes.{header_part, device_parts, status_sound, frame_status, frame_left, frame_woken, frame_served, frame_next}
use Rattle.laws.specs.Orders.{OwnCell}
use Rattle.laws.specs.Room.{good_listed, listed_none, waits_not}
use Rattle.laws.proofs.Room.{listed_few}
use Rattle.event_laws.specs.Turns.{woken_ready, Leads, leads_sound, leads_in, leads_ready, turned_frame}
use Rattle.event_laws.specs.Serving.{served_nearly, wakes_whom}
use Rattle.event_laws.specs.Walk.{asked_waits, ServiceCases, Begins, input_any, done_any, event_any}
use Rattle.event_laws.proofs.Walk.{tick_any}
use Rattle.event_laws.proofs.Stays.{begins_leads, stopped_is, order_frame, first_leads, next_owner}
use Rattle.event_laws.specs.Begun.{clock_only, fault_same, blocked_same, wakes_same}
use Rattle.event_laws.specs.Whom.{woken_unless, whom, Unmoved}
use Rattle.event_laws.specs.Wakes.{WakesOnly}

-- cells that are not of a task's rows in the status table and the task table
abbrev task_parts : Part → Bool
task_parts p = eqb (ord p) 1 || eqb (ord p) 3

record Off (j : Task) (c : Cell) : Type 0 where
  elsewhere : task_parts c.part ≡ true → c.row ≢ j.0

off_part : (j : Task) (c : Cell) → task_parts c.part ≡ false → Off j c
off_part j c f = record { elsewhere = λ e. absurd (true≢false (sym e ∙ f)) }

off_row : (i j : Task) → i.0 ≢ j.0 → (p : Part) (r : ℕ) → Off j (cell p i.0 r)
off_row i j ne p r = record { elsewhere = λ _. ne }

off_device : (p : Part) → device_parts p ≡ true → task_parts p ≡ false
off_device Part.Header t = refl
off_device Part.TaskTable t = sym t
off_device Part.ReadyQueue t = refl
off_device Part.StatusTable t = sym t
off_device Part.InputBuffers t = refl
off_device Part.OutputBuffers t = refl
off_device Part.MessageBuffers t = refl
off_device Part.Ports t = refl
off_device Part.SegmentTable t = refl
off_device Part.Segments t = refl

unmoved : {s : Shape} {im m : List ℕ} (j : Task) → j.0 < s.n → Frame s (Off j) im m → Unmoved s im m j
unmoved j hj f =
    record {
      status = f.others (status j) (hj, omega arith) (λ o. o.elsewhere refl refl);
      peer = f.others (peer j) (hj, omega arith) (λ o. o.elsewhere refl refl);
      words = λ r hr. f.others (reg j r) (hj, hr) (λ o. o.elsewhere refl refl);
    }

-- nobody is woken, and the task whose rows change, if one does, was ready
wakes_nobody : {s : Shape} {im m : List ℕ} → ((j : Task) → j.0 < s.n → at s im (status j) ≢ is_ready → Frame s (Off j) im m) → WakesOnly s im None m
wakes_nobody f =
    record {
      waited = λ k e. absurd (let z : ◌≡◌ {A = ℕ} 0 1 = cc in omega arith);
      becomes = λ k e. absurd (let z : ◌≡◌ {A = ℕ} 0 1 = cc in omega arith);
      stays = λ j hj ne _. unmoved j hj (f j hj ne);
    }

-- a ready task is another than one that is not
not_ready : (s : Shape) (im : List ℕ) (i j : Task) → at s im (status i) ≡ is_ready → at s im (status j) ≢ is_ready → i.0 ≢ j.0
not_ready s im i j r n e = n (ap (λ (x : ℕ). at s im (cell Part.StatusTable x 0)) (sym e) ∙ r)

-- one task is woken, and of tasks that were not ready no other's rows change
wakes_one : {s : Shape} {im m : List ℕ} (k : Task) → k.0 < s.n → at s im (status k) ≢ is_ready → at s m (status k) ≡ is_ready
    → ((j : Task) → at s im (status j) ≢ is_ready → k.0 ≢ j.0 → Frame s (Off j) im m) → WakesOnly s im (Some k) m
wakes_one k hk ne now f =
    record {
      waited = λ j e. let z : k ≡ j = cc in rw (← z) (hk, ne);
      becomes = λ j e. let z : k ≡ j = cc in rw (← z) now;
      stays = λ j hj still other. unmoved j hj (f j still (λ e. other (ap Some (same_task k j e))));
    }

-- a service of the first task
module _ {s : Shape} {im m : List ℕ} {i : Task} (l : Leads s im i) (b : Begins s im m) where
  here : Leads s m i
  here = begins_leads l b

  begun : (j : Task) → Frame s (Off j) im m
  begun j = frame_more b.but_clock (λ c e. off_part j c (ap (λ (x : Cell). task_parts x.part) e))

  another : (j : Task) → at s im (status j) ≢ is_ready → (p : Part) (r : ℕ) → Off j (cell p i.0 r)
  another j ne = off_row i j (not_ready s im i j (leads_ready l) ne)

  moves : (v : Service) → fault_of s m i v ≡ None → blocked s m i v ≡ false → (j : Task) → at s im (status j) ≢ is_ready → Frame s (Off j) im (served s m i v)
  moves v right clear j ne =
      frame_served (begun j) (leads_sound here) i (leads_in l) (λ c t. off_part j c (off_device c.part t)) (another j ne Part.TaskTable) v right clear

  service_wakes : (v : Service) → ServiceCases s m i v (λ t. WakesOnly s im (woken_unless (fault_of s im i v) (blocked s im i v) (wakes s im i v)) t.image)
  unfolding service_faulted waiting
  service_wakes v =
      let same = fault_same l b v in
      let clear : fault_of s m i v ≡ None → blocked s m i v ≡ blocked s im i v = λ right. blocked_same l b v (sym same ∙ right) in
      let woke : fault_of s m i v ≡ None → wakes s m i v ≡ wakes s im i v = λ right. wakes_same l b v (sym same ∙ right) in
      record {
        faults = λ e f. rw (sym same ∙ f) (wakes_nobody (λ j _ ne. frame_put (begun j) (flags i) _ (leads_in l, omega arith) (another j ne Part.TaskTable 8)));
        stuck = λ right stuck.
            rw (sym same ∙ right, sym (clear right) ∙ stuck)
            (wakes_nobody (λ j _ ne.
            frame_left (frame_status (begun j) i (leads_in l) _ _ (another j ne Part.StatusTable))
            (status_sound s m i (leads_in l) (leads_sound here) (waits v) (awaited s m i v)) (λ r. off_part j _ refl) (off_part j _ refl)));
        alone = λ right free none.
            rw (sym same ∙ right, sym (clear right) ∙ free, sym (woke right) ∙ none) (wakes_nobody (λ j _ ne. moves v right free j ne));
        woke = λ k right free one.
            let w = wakes_whom here v right k one in
            let st = kept_status header_part (clock_only l b) refl k w.0 in
            rw (sym same ∙ right, sym (clear right) ∙ free, sym (woke right) ∙ one)
            (wakes_one k w.0 (λ z. w.1 (st ∙ z)) (woken_ready s _ k w.0 (served_nearly here v right free).lies) (λ j ne other.
            frame_woken (moves v right free j ne) (served_nearly here v right free).lies (λ r. off_part j _ refl) (off_part j _ refl) k w.0 (off_row k j other Part.StatusTable)));
      }

one_or_not : (w : Option Task) (i : Task) → (w ≡ Some i) ⊎ (w ≢ Some i)
one_or_not None i = inr (λ e. let z : ◌≡◌ {A = ℕ} 0 1 = cc in omega arith)
one_or_not (Some k) i =
    dite (ℕ_discrete k.0 i.0) (λ e. inl (ap Some (same_task k i e))) (λ ne. inr (λ e. let z : k ≡ i = cc in ne (ap (λ (x : Task). x.0) z)))

module _ (s : Shape) (im : List ℕ) (g : Good s im) where
  tick_wakes_only : WakesOnly s im (whom s im Event.Tick) (tick s im).image
  tick_wakes_only =
      tick_any (λ t. WakesOnly s im (whom s im Event.Tick) t.image)
      record {
        idle = λ none. rw none (wakes_nobody (λ j _ _. frame_none));
        stops = λ some wrong.
            let l = first_leads s im g some in
            rw (some, ne_eqb (error s im (running s im)) 0 wrong, stopped_is l)
            (wakes_nobody (λ j _ ne.
            frame_left (frame_status frame_none (running s im) (leads_in l) _ _ (off_row (running s im) j (not_ready s im (running s im) j (leads_ready l) ne) Part.StatusTable))
            (status_sound s im (running s im) (leads_in l) (leads_sound l) _ _) (λ r. off_part j _ refl) (off_part j _ refl)));
        turns = λ some calm over.
            rw (some, eq-eqb (error s im (running s im)) 0 calm, eq-eqb (at s im clock) 0 over)
            (wakes_nobody (λ j _ _. turned_frame (first_leads s im g some) (λ r. off_part j _ refl) (off_part j _ refl)));
        serves = λ some calm runs v asks m b.
            rw (some, eq-eqb (error s im (running s im)) 0 calm, ne_eqb (at s im clock) 0 runs, asks, asked_waits v) (service_wakes (first_leads s im g some) b v);
        orders = λ some calm runs none m b.
            let k : WakesOnly s im None m = wakes_nobody (λ j _ ne. order_frame (first_leads s im g some) b (off_own j (not_ready s im (running s im) j (leads_ready (first_leads s im g some)) ne)) (off_part j _ refl)) in
            rw (some, eq-eqb (error s im (running s im)) 0 calm, ne_eqb (at s im clock) 0 runs, none) (record { does = λ _ _ _. k; faults = λ _ _. k });
      }
    where
      off_own : (j : Task) → (running s im).0 ≢ j.0 → (c : Cell) → OwnCell s im (running s im) c → Off j c
      off_own j ne c (inl (_, row)) = record { elsewhere = λ _ e. ne (sym row ∙ e) }
      off_own j ne c (inr (p, _)) = off_part j c (ap task_parts p)

  -- a device event that has made m of im, and wakes its owner if it waits with service v
  module _ (i : Task) (hi : i.0 < s.n) (v : Service) (m : List ℕ) (f : (j : Task) → Frame s (Off j) im m) where
    alone_wakes_only : at s im (status i) ≢ waits v → WakesOnly s im (one_if (eqb (at s im (status i)) (waits v)) i) m
    alone_wakes_only ne = rw (ne_eqb (at s im (status i)) (waits v) ne) (wakes_nobody (λ j _ _. f j))

    owner_wakes_only : Sound s m → at s im (status i) ≡ waits v → WakesOnly s im (one_if (eqb (at s im (status i)) (waits v)) i) (woken s m i)
    owner_wakes_only h e =
        rw (eq-eqb (at s im (status i)) (waits v) e)
        (wakes_one i hi (λ z. waits_not v (sym z ∙ e)) (woken_ready s m i hi h) (λ j _ other. frame_woken (f j) h (λ r. off_part j _ refl) (off_part j _ refl) i hi (off_row i j other Part.StatusTable)))

  -- a queue is not both empty and full
  pub some_capacity : (q : Queue) → Has s q → 1 ≤ header_capacity s q → Empty s im q → ¬ Full s im q
  some_capacity q hq c none all = omega (arith, none, all, (g.queues q hq).sized)

  pub is_full : (q : Queue) → full s im q ≡ true → Full s im q
  unfolding full
  is_full q e = eqb-true _ _ e

  input_wakes_only : (i : Task) (c : ℕ) → i.0 < s.n → WakesOnly s im (whom s im (Event.Input i c)) (input s im i c).image
  input_wakes_only i c hi =
      let h = good_sound s im g in
      let f : (j : Task) → Frame s (Off j) im (appended s im (Queue.Input i) c) = λ j. frame_appended frame_none (Queue.Input i) hi h (λ r. off_part j _ refl) c in
      input_any s im i (λ o. WakesOnly s im (whom s im (Event.Input i c)) o.image) c
      (λ stopped. alone_wakes_only i hi Service.Input im (λ j. frame_none) (λ e. some_capacity (Queue.Input i) hi g.laid.fit.inputs.0 ((g.statuses i hi).inputs e).1 (is_full (Queue.Input i) stopped)))
      (λ _. alone_wakes_only i hi Service.Input _ f) (λ clear. owner_wakes_only i hi Service.Input _ f (appended_sound s im (Queue.Input i) hi h c (has_space s im h (Queue.Input i) hi clear)))

  done_wakes_only : (i : Task) → i.0 < s.n → WakesOnly s im (whom s im (Event.OutputDone i)) (output_done s im i).image
  done_wakes_only i hi =
      let h = good_sound s im g in
      let f : (j : Task) → Frame s (Off j) im (port_next s im i) = λ j. frame_next frame_none h i hi (λ r. off_part j _ refl) (λ r. off_part j _ refl) in
      done_any s im i (λ o. WakesOnly s im (whom s im (Event.OutputDone i)) o.image)
      (λ idle. alone_wakes_only i hi Service.Output im (λ j. frame_none) (λ e. some_capacity (Queue.Output i) hi g.laid.fit.outputs.0 ((g.ports i hi).idle idle).1 ((g.statuses i hi).outputs e).2))
      (λ _. alone_wakes_only i hi Service.Output _ f) (λ _. owner_wakes_only i hi Service.Output _ f (next_owner s im g i hi (Some i) (λ _. refl)).lies)

  pub wakes_only : (e : Event) → Formed s e → WakesOnly s im (whom s im e) (happening s im e).image
  unfolding Formed
  wakes_only =
      event_any s im (λ e o. Formed s e → WakesOnly s im (whom s im e) o.image) (λ _. tick_wakes_only) (λ i c f. input_wakes_only i c f.0) done_wakes_only
      (λ _. wakes_nobody (λ j _ _. frame_none))

  -- THE WAKE: a task that an event wakes is one of the image that is not in the ready queue, and the queue has a free slot for it
  pub wake_finds_room : (e : Event) → Formed s e → (k : Task) → whom s im e ≡ Some k
      → (k.0 < s.n) × (times k.0 (held s im Queue.Ready) ≡ 0) × (length (held s im Queue.Ready) < s.n)
  wake_finds_room e f k one =
      let w = (wakes_only e f).waited k one in
      (w.0, listed_none s im (good_listed g) k w.0 w.1, listed_few s im (good_listed g) k w.0 w.1)

  -- and a task that is not ready becomes so exactly where the event wakes it
  pub wakes_exactly : (e : Event) → Formed s e → (i : Task) → i.0 < s.n → at s im (status i) ≢ is_ready
      → (at s (happening s im e).image (status i) ≡ is_ready) ↔ (whom s im e ≡ Some i)
  wakes_exactly e f i hi ne =
      let w = wakes_only e f in
      (λ now. ⊎_elim (λ one. one) (λ other. absurd (ne (sym (w.stays i hi ne other).status ∙ now))) (one_or_not (whom s im e) i), w.becomes i)

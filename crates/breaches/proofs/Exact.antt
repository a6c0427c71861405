-- The twenty-one rules are what number 6 goes by: all of them hold exactly where the tests of `rules_hold` do. Assumes nothing.
use mathlib.Core.Path.{◌≡◌, refl, ap, ◌∙◌}
use mathlib.Core.List.{List}
use mathlib.Core.Bool.{Bool, true, and-eq-true_iff}
use mathlib.Core.Logic.{dite}
use Prim.Native.Nat.{ℕ, ◌+◌, ◌-◌, ◌*◌, ◌/◌, ◌%◌, ◌<◌, ◌≤◌}
use native.Mathlib.Nat.{mul-le-mul_right, mul-add-div_right, mul-add-mod_self_right, div-eq_of_lt, mod-eq_of_lt}
use native.Mathlib.Decide.{ℕ_discrete, dec_lt}
use native.Mathlib.Omega.{arith}
use borrow.Author.Tests.{lt-ltb, le-ltb, eq-eqb, ne_eqb, eqb-true}
use Rattle.paper.specs.Image.{task, most_character, at}
use Rattle.paper.specs.Queues.{Has, header_capacity, capacity, held}
use Rattle.paper.specs.Rules.{Fit}
use Rattle.paper.specs.Tests.{every_task, all_below, queued, cleared, queue_holds, readied_tasks, clock_holds, buffers_hold, characters, readied_once, port_holds, flags_hold, status_holds, task_holds, rules_hold}
use Rattle.paper.specs.declared.Task.{Task}
use Rattle.paper.specs.declared.Shape.{Shape}
use Rattle.paper.specs.declared.Queue.{Queue}
use Rattle.paper.specs.declared.Service.{Service}
use Rattle.laws.specs.Checked.{every_is}
use Rattle.single_rules.specs.Each.{fields_within, one_at_most, known, headers_own, ends_below, length_within, round, below, only_characters, only_tasks, once_if_ready, clock_within, clock_idle, port_within, port_idle, stands, stopped, no_peer, free_zeros, kind, queues, subjects, queue, holds}
use Rattle.single_rules.specs.declared.Rule.{Rule}
use Rattle.single_rules.proofs.Tested.{queue_ready, queue_input, queue_output, queue_message}

-- every rule holds of all that it is of
abbrev pub AllHold : Shape → List ℕ → Type 0
AllHold s im = (r : Rule) (k : ℕ) → k < subjects s (kind r) → holds s im r k ≡ true

-- every queue of an image is queue k for some k, and queue k is one
pub record Stands (s : Shape) (q : Queue) : Type 0 where
  pub k : ℕ
  pub inside : k < queues s
  pub is : queue s k ≡ q

module _ (s : Shape) (f : Fit s) where
  pub stands_at : (q : Queue) → Has s q → Stands s q
  unfolding queue
  stands_at Queue.Ready h = record { k = 0; inside = omega arith; is = refl }
  stands_at (Queue.Input i) h =
      let k : ℕ = 1 + i.0 in
      let e : k - 1 ≡ i.0 = omega arith in
      record { k = k; inside = omega (arith, h); is = rw (ne_eqb k 0 (omega arith), e, lt-ltb i.0 s.n h) }
  stands_at (Queue.Output i) h =
      let k : ℕ = 1 + s.n + i.0 in
      let e : k - 1 ≡ s.n + i.0 = omega arith in
      let d : s.n + i.0 - s.n ≡ i.0 = omega arith in
      record {
        k = k;
        inside = omega (arith, h, mul-le-mul_right s.n f.tasks.0);
        is = rw (ne_eqb k 0 (omega arith), e, le-ltb (s.n + i.0) s.n (omega arith), d, lt-ltb i.0 s.n h);
      }
  stands_at (Queue.Message i j) h =
      let n : ℕ = s.n in
      let m : ℕ = i.0 * n + j.0 in
      let k : ℕ = 1 + n + n + m in
      let e : k - 1 ≡ n + n + m = omega arith in
      let d : n + n + m - n ≡ n + m = omega arith in
      let c : n + m - n ≡ m = omega arith in
      let some : 0 < n = f.tasks.0 in
      let a : m / n ≡ i.0 = mul-add-div_right some i.0 j.0 ∙ ap (λ x. i.0 + x) (div-eq_of_lt h.1) ∙ omega arith in
      let b : m % n ≡ j.0 = mul-add-mod_self_right i.0 n j.0 ∙ mod-eq_of_lt h.1 in
      record {
        k = k;
        inside = omega (arith, h.1, mul-le-mul_right n h.0);
        is = rw (ne_eqb k 0 (omega arith), e, le-ltb (n + n + m) n (omega arith), d, le-ltb (n + m) n (omega arith), c, a, b);
      }

  pub of_all : (g : Queue → Bool) → ((k : ℕ) → k < queues s → g (queue s k) ≡ true) → (q : Queue) → Has s q → g q ≡ true
  of_all g h q hq = let w = stands_at q hq in rw w.is at (h w.k w.inside)

  pub queue_has : (k : ℕ) → k < queues s → Has s (queue s k)
  queue_has k l =
      dite (ℕ_discrete k 0) (λ e. let w = queue_ready s f k l e in rw (← w.0) w.1)
      (λ n. dite (dec_lt (k - 1) s.n) (λ a. let w = queue_input s f k l n a in rw (← w.0) w.1)
      (λ a. let a' : s.n ≤ k - 1 = omega arith in
      dite (dec_lt (k - 1 - s.n) s.n) (λ b. let w = queue_output s f k l n a' b in rw (← w.0) w.1)
      (λ b. let b' : s.n ≤ k - 1 - s.n = omega arith in let w = queue_message s f k l n a' b' in rw (← w.0) w.1)))

-- the first four rules of a queue are those that `queued` tests
module _ (s : Shape) (im : List ℕ) (q : Queue) where
  pub queued_by : headers_own s im q ≡ true → ends_below s im q ≡ true → length_within s im q ≡ true → round s im q ≡ true → queued s im q ≡ true
  unfolding queued headers_own ends_below length_within round
  queued_by h4 h5 h6 h7 =
      let e : at s im (capacity s q) ≡ header_capacity s q = eqb-true (at s im (capacity s q)) (header_capacity s q) h4 in
      let p = simp and-eq-true_iff at h5 in
      rw (e, eq-eqb (header_capacity s q) (header_capacity s q) refl, p.0, p.1, h6, h7)

  pub queued_parts : queued s im q ≡ true → (headers_own s im q ≡ true) × (ends_below s im q ≡ true) × (length_within s im q ≡ true) × (round s im q ≡ true)
  unfolding queued headers_own ends_below length_within round
  queued_parts h =
      let p = simp and-eq-true_iff at h in
      let e : at s im (capacity s q) ≡ header_capacity s q = eqb-true (at s im (capacity s q)) (header_capacity s q) p.0.0.0.0 in
      (p.0.0.0.0, (and-eq-true_iff _ _).1 (rw e at p.0.0.0.1, rw e at p.0.0.1), rw e at p.0.1, rw e at p.1)

  -- the words that it holds
  pub below_by : (m : ℕ) → queued s im q ≡ true → all_below m (held s im q) ≡ true → below s im q m ≡ true
  unfolding below
  below_by m e h = rw (e, h)

  pub below_so : (m : ℕ) → queued s im q ≡ true → below s im q m ≡ true → all_below m (held s im q) ≡ true
  unfolding below
  below_so m e h = rw e at h

  -- its free slots
  zeros_by : queued s im q ≡ true → cleared s im q ≡ true → free_zeros s im q ≡ true
  unfolding free_zeros
  zeros_by e h = rw (e, h)

  zeros_so : queued s im q ≡ true → free_zeros s im q ≡ true → cleared s im q ≡ true
  unfolding free_zeros
  zeros_so e h = rw e at h

-- where all rules hold, the tests do
module _ (s : Shape) (im : List ℕ) (f : Fit s) (h : AllHold s im) where
  all_queued : (q : Queue) → Has s q → queued s im q ≡ true
  all_queued q hq =
      queued_by s im q (of_all s f (headers_own s im) (h Rule.Capacity) q hq) (of_all s f (ends_below s im) (h Rule.HeadTail) q hq)
      (of_all s f (length_within s im) (h Rule.Length) q hq) (of_all s f (round s im) (h Rule.Round) q hq)

  all_kept : (q : Queue) → Has s q → queue_holds s im q ≡ true
  unfolding queue_holds
  all_kept q hq =
      let e = all_queued q hq in
      (and-eq-true_iff _ _).1 (e, zeros_so s im q e (of_all s f (free_zeros s im) (h Rule.FreeSlots) q hq))

  tasks_held : readied_tasks s im ≡ true
  unfolding readied_tasks
  tasks_held = below_so s im Queue.Ready s.n (all_queued Queue.Ready tt) (of_all s f (only_tasks s im) (h Rule.Tasks) Queue.Ready tt)

  module _ (i : Task) (l : i.0 < s.n) where
    buffers_so : buffers_hold s im i ≡ true
    unfolding buffers_hold
    buffers_so =
        (and-eq-true_iff _ _).1 (
          (and-eq-true_iff _ _).1 (all_kept (Queue.Input i) l, all_kept (Queue.Output i) l),
          (every_is s.n _).1 (λ k m. all_kept (Queue.Message i (task k)) (l, m)),
        )

    characters_so : characters s im i ≡ true
    unfolding characters
    characters_so =
        (and-eq-true_iff _ _).1 (
          below_so s im (Queue.Input i) (most_character + 1) (all_queued (Queue.Input i) l) (of_all s f (only_characters s im) (h Rule.Characters) (Queue.Input i) l),
          below_so s im (Queue.Output i) (most_character + 1) (all_queued (Queue.Output i) l) (of_all s f (only_characters s im) (h Rule.Characters) (Queue.Output i) l),
        )

    once_so : readied_once s im i ≡ true
    unfolding once_if_ready
    once_so = let q = all_queued Queue.Ready tt in let t = tasks_held in let w = h Rule.Readied i.0 l in rw (q, t) at w

    port_so : port_holds s im i ≡ true
    unfolding port_holds port_within port_idle
    port_so = (and-eq-true_iff _ _).1 (h Rule.Port i.0 l, h Rule.IdlePort i.0 l)

    flags_so : flags_hold s im i ≡ true
    unfolding flags_hold fields_within one_at_most
    flags_so = (and-eq-true_iff _ _).1 (h Rule.Flags i.0 l, h Rule.Both i.0 l)

    status_so : status_holds s im i ≡ true
    unfolding status_holds known stands stopped no_peer
    status_so =
        rw (h Rule.Status i.0 l, h Rule.Sends i.0 l, h Rule.Receives i.0 l, h Rule.Inputs i.0 l, h Rule.Outputs i.0 l, h Rule.Stopped i.0 l, h Rule.Peerless i.0 l)

    task_so : task_holds s im i ≡ true
    unfolding task_holds
    task_so = rw (buffers_so, characters_so, once_so, port_so, flags_so, status_so)

  clock_so : clock_holds s im ≡ true
  unfolding clock_holds clock_within clock_idle
  clock_so = (and-eq-true_iff _ _).1 (h Rule.ClockRange 0 (omega arith), h Rule.ClockIdle 0 (omega arith))

  pub rules_so : rules_hold s im ≡ true
  unfolding rules_hold
  rules_so = rw (all_kept Queue.Ready tt, tasks_held, clock_so, (every_is s.n (λ k. task_holds s im (task k))).1 (λ k l. task_so (task k) l))

-- where the tests hold, all rules do
module _ (s : Shape) (im : List ℕ) (f : Fit s) (h : rules_hold s im ≡ true) where
  parts : (queue_holds s im Queue.Ready ≡ true) × (readied_tasks s im ≡ true) × (clock_holds s im ≡ true) × (every_task s (task_holds s im) ≡ true)
  unfolding rules_hold
  parts = let p = simp and-eq-true_iff at h in (p.0.0.0, p.0.0.1, p.0.1, p.1)

  module _ (i : Task) (l : i.0 < s.n) where
    of_task : (buffers_hold s im i ≡ true) × (characters s im i ≡ true) × (readied_once s im i ≡ true) × (port_holds s im i ≡ true) × (flags_hold s im i ≡ true) ×
        (status_holds s im i ≡ true)
    unfolding task_holds
    of_task =
        let p = simp and-eq-true_iff at ((every_is s.n (λ k. task_holds s im (task k))).0 parts.3 i.0 l) in
        (p.0.0.0.0.0, p.0.0.0.0.1, p.0.0.0.1, p.0.0.1, p.0.1, p.1)

    of_buffers : (queue_holds s im (Queue.Input i) ≡ true) × (queue_holds s im (Queue.Output i) ≡ true) ×
        (every_task s (λ j. queue_holds s im (Queue.Message i j)) ≡ true)
    unfolding buffers_hold
    of_buffers = let p = simp and-eq-true_iff at of_task.0 in (p.0.0, p.0.1, p.1)

    of_characters : (all_below (most_character + 1) (held s im (Queue.Input i)) ≡ true) × (all_below (most_character + 1) (held s im (Queue.Output i)) ≡ true)
    unfolding characters
    of_characters = (and-eq-true_iff _ _).0 of_task.1

    of_port : (port_within s im i ≡ true) × (port_idle s im i ≡ true)
    unfolding port_holds port_within port_idle
    of_port = (and-eq-true_iff _ _).0 of_task.3

    of_flags : (fields_within s im i ≡ true) × (one_at_most s im i ≡ true)
    unfolding flags_hold fields_within one_at_most
    of_flags = (and-eq-true_iff _ _).0 of_task.4

    of_status : (known s im i ≡ true) × (stands Service.Send s im i ≡ true) × (stands Service.Receive s im i ≡ true) × (stands Service.Input s im i ≡ true) ×
        (stands Service.Output s im i ≡ true) × (stopped s im i ≡ true) × (no_peer s im i ≡ true)
    unfolding status_holds known stands stopped no_peer
    of_status =
        let g = (and-eq-true_iff _ _).0 of_task.5 in
        let e = (and-eq-true_iff _ _).0 g.0 in
        let d = (and-eq-true_iff _ _).0 e.0 in
        let c = (and-eq-true_iff _ _).0 d.0 in
        let b = (and-eq-true_iff _ _).0 c.0 in
        let a = (and-eq-true_iff _ _).0 b.0 in
        (a.0, a.1, b.1, c.1, d.1, e.1, g.1)

  of_clock : (clock_within s im ≡ true) × (clock_idle s im ≡ true)
  unfolding clock_holds clock_within clock_idle
  of_clock = (and-eq-true_iff _ _).0 parts.2

  kept_all : (q : Queue) → Has s q → queue_holds s im q ≡ true
  kept_all Queue.Ready l = parts.0
  kept_all (Queue.Input i) l = (of_buffers i l).0
  kept_all (Queue.Output i) l = (of_buffers i l).1
  kept_all (Queue.Message i j) l = (every_is s.n (λ k. queue_holds s im (Queue.Message i (task k)))).0 (of_buffers i l.0).2 j.0 l.1

  of_queue : (q : Queue) → Has s q → (queued s im q ≡ true) × (cleared s im q ≡ true)
  unfolding queue_holds
  of_queue q l = (and-eq-true_iff _ _).0 (kept_all q l)

  characters_all : (q : Queue) → Has s q → only_characters s im q ≡ true
  characters_all Queue.Ready l = refl
  characters_all (Queue.Input i) l = below_by s im (Queue.Input i) (most_character + 1) (of_queue (Queue.Input i) l).0 (of_characters i l).0
  characters_all (Queue.Output i) l = below_by s im (Queue.Output i) (most_character + 1) (of_queue (Queue.Output i) l).0 (of_characters i l).1
  characters_all (Queue.Message i j) l = refl

  tasks_all : (q : Queue) → Has s q → only_tasks s im q ≡ true
  unfolding readied_tasks
  tasks_all Queue.Ready l = below_by s im Queue.Ready s.n (of_queue Queue.Ready l).0 parts.1
  tasks_all (Queue.Input i) l = refl
  tasks_all (Queue.Output i) l = refl
  tasks_all (Queue.Message i j) l = refl

  zeros_all : (q : Queue) → Has s q → free_zeros s im q ≡ true
  zeros_all q l = let w = of_queue q l in zeros_by s im q w.0 w.1

  once_all : (i : Task) → i.0 < s.n → once_if_ready s im i ≡ true
  unfolding once_if_ready
  once_all i l = let a = (of_queue Queue.Ready tt).0 in let b = parts.1 in let c = (of_task i l).2 in rw (a, b, c)

  queue_parts : (k : ℕ) → k < queues s → (headers_own s im (queue s k) ≡ true) × (ends_below s im (queue s k) ≡ true) × (length_within s im (queue s k) ≡ true) ×
      (round s im (queue s k) ≡ true)
  queue_parts k l = queued_parts s im (queue s k) (of_queue (queue s k) (queue_has s f k l)).0

  pub all_so : AllHold s im
  all_so Rule.Flags k l = (of_flags (task k) l).0
  all_so Rule.Both k l = (of_flags (task k) l).1
  all_so Rule.Status k l = (of_status (task k) l).0
  all_so Rule.Capacity k l = (queue_parts k l).0
  all_so Rule.HeadTail k l = (queue_parts k l).1
  all_so Rule.Length k l = (queue_parts k l).2
  all_so Rule.Round k l = (queue_parts k l).3
  all_so Rule.Characters k l = characters_all (queue s k) (queue_has s f k l)
  all_so Rule.Tasks k l = tasks_all (queue s k) (queue_has s f k l)
  all_so Rule.Readied k l = once_all (task k) l
  all_so Rule.ClockRange k l = of_clock.0
  all_so Rule.ClockIdle k l = of_clock.1
  all_so Rule.Port k l = (of_port (task k) l).0
  all_so Rule.IdlePort k l = (of_port (task k) l).1
  all_so Rule.Sends k l = (of_status (task k) l).1
  all_so Rule.Receives k l = (of_status (task k) l).2
  all_so Rule.Inputs k l = (of_status (task k) l).3
  all_so Rule.Outputs k l = (of_status (task k) l).4
  all_so Rule.Stopped k l = (of_status (task k) l).5
  all_so Rule.Peerless k l = (of_status (task k) l).6
  all_so Rule.FreeSlots k l = zeros_all (queue s k) (queue_has s f k l)

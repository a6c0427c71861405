-- What is seen of an image is in the ranges of its rules: nothing is seen but of a good image. Assumes nothing.
use Rattle.std.specs.Prelude.{Err, Ok, Result, Option, Some, None, ⊤}
use mathlib.Core.Path.{◌≡◌, refl}
use mathlib.Core.Bool.{Bool, true, false, cond}
use mathlib.Core.Logic.{dite}
use mathlib.Core.List.{List}
use Prim.Native.Nat.{ℕ, ◌<◌, ◌≤◌}
use native.Mathlib.Decide.{ℕ_discrete}
use native.Mathlib.Omega.{arith}
use borrow.Author.Tests.{ltb-true}
use lib.Dec.{ltb}
use lib.ListN.{length}
use Rattle.paper.specs.Image.{task, most_tasks, most_capacity, most_character, shape_of, at, status, peer}
use Rattle.paper.specs.Queues.{Has, header_capacity, count}
use Rattle.paper.specs.Flags.{most_cc, most_error, waits, is_stopped}
use Rattle.paper.specs.Services.{services}
use Rattle.paper.specs.Rules.{Good}
use Rattle.paper.specs.Numbers.{check}
use Rattle.paper.specs.declared.Task.{Task}
use Rattle.paper.specs.declared.Shape.{Shape}
use Rattle.paper.specs.declared.Queue.{Queue}
use Rattle.paper.specs.declared.Service.{Service}
use Rattle.laws.specs.Checked.{checked_good}
use Rattle.views.specs.Looks.{task_state, port_state, named_queue, task_seen, port_seen, length_seen, if_good, task_view, port_view, length_view}
use Rattle.views.specs.declared.TaskState.{TaskState}
use Rattle.views.specs.declared.PortState.{PortState}
use Rattle.views.proofs.Queues.{named_has}
use Rattle.paper.specs.declared.Refusal.{Refusal}

-- the ranges of a task's fields, and of a port's
pub record TaskRanges (x : TaskState) : Type 0 where
  pub of_status : x.status ≤ is_stopped
  pub of_peer : x.peer < most_tasks
  pub of_cc : x.cc ≤ most_cc
  pub of_error : x.error ≤ most_error
  pub of_pending : x.pending ≤ length services

pub record PortRanges (x : PortState) : Type 0 where
  pub of_busy : x.busy ≤ 1
  pub of_character : x.character ≤ most_character

module _ (s : Shape) (im : List ℕ) (g : Good s im) where
  -- a peer is a task, or 0
  peer_few : (i : Task) → i.0 < s.n → at s im (peer i) < most_tasks
  peer_few i hi =
      let r = g.statuses i hi in
      let few = g.laid.fit.tasks.1 in
      dite (ℕ_discrete (at s im (status i)) (waits Service.Send)) (λ e. omega (arith, (r.sends e).1.1, few))
      (λ n. dite (ℕ_discrete (at s im (status i)) (waits Service.Receive)) (λ e. omega (arith, (r.receives e).1.1, few)) (λ m. omega (arith, r.peerless n m)))

  state_ranges : (i : Task) → i.0 < s.n → TaskRanges (task_state s im i)
  state_ranges i hi =
      let f = g.flags i hi in
      record { of_status = (g.statuses i hi).known; of_peer = peer_few i hi; of_cc = f.cc_range; of_error = f.error_range; of_pending = f.pending_range }

  capacity_few : (q : Queue) → header_capacity s q ≤ most_capacity
  capacity_few Queue.Ready = omega (arith, g.laid.fit.tasks.1)
  capacity_few (Queue.Input i) = g.laid.fit.inputs.1
  capacity_few (Queue.Output i) = g.laid.fit.outputs.1
  capacity_few (Queue.Message i j) = g.laid.fit.messages.1

  count_few : (q : Queue) → Has s q → at s im (count s q) ≤ most_capacity
  count_few q hq = omega (arith, (g.queues q hq).counted, (g.queues q hq).sized, capacity_few q)

  length_few : (q i j n : ℕ) → length_seen s im (named_queue s q i j) ≡ Some n → n ≤ most_capacity
  unfolding length_seen
  length_few q i j n = go (named_queue s q i j) refl
    where
      go : (x : Option Queue) → named_queue s q i j ≡ x → length_seen s im x ≡ Some n → n ≤ most_capacity
      go (Some y) e f = let k : at s im (count s y) ≡ n = cc in omega (arith, k, count_few y (named_has s y q i j e))
      go None e f = absurd (let z : ◌≡◌ {A = ℕ} 0 1 = cc in omega arith)

-- what is seen is so, and of an image that passes the check
seen : {A : Type 0} (v : Result ⊤ Refusal) (y : Option A) (x : A) → if_good v y ≡ Ok (Some x) → (v ≡ Ok tt) × (y ≡ Some x)
seen (Ok tt) y x e = (refl, cc)
seen (Err r) y x e = absurd (let z : ◌≡◌ {A = ℕ} 0 1 = cc in omega arith)

there : {A : Type 0} (b : Bool) (y x : A) → cond b (Some y) None ≡ Some x → (b ≡ true) × (y ≡ x)
there true y x e = (refl, cc)
there false y x e = absurd (let z : ◌≡◌ {A = ℕ} 0 1 = cc in omega arith)

module _ (im : List ℕ) where
  -- a task
  pub task_ranges : (t : ℕ) (x : TaskState) → task_view im t ≡ Ok (Some x) → TaskRanges x
  unfolding task_view task_seen
  task_ranges t x e =
      let s = shape_of im in
      let h = seen (check im) (cond (ltb t s.n) (Some (task_state s im (task t))) None) x e in
      let y = there (ltb t s.n) (task_state s im (task t)) x h.1 in
      rw (← y.1) (state_ranges s im (checked_good im h.0) (task t) (ltb-true t s.n y.0))

  -- a port
  pub port_ranges : (d : ℕ) (x : PortState) → port_view im d ≡ Ok (Some x) → PortRanges x
  unfolding port_view port_seen
  port_ranges d x e =
      let s = shape_of im in
      let h = seen (check im) (cond (ltb d s.n) (Some (port_state s im (task d))) None) x e in
      let y = there (ltb d s.n) (port_state s im (task d)) x h.1 in
      let p = (checked_good im h.0).ports (task d) (ltb-true d s.n y.0) in
      rw (← y.1) (record { of_busy = p.busy_range; of_character = p.character_range })

  -- a length
  pub length_range : (q i j n : ℕ) → length_view im q i j ≡ Ok (Some n) → n ≤ most_capacity
  unfolding length_view
  length_range q i j n e =
      let s = shape_of im in
      let h = seen (check im) (length_seen s im (named_queue s q i j)) n e in
      length_few s im (checked_good im h.0) q i j n h.1

-- The rules of a task's status, one for each service that it may wait with, and what they rest on. Assumes nothing.
use Rattle.std.specs.Prelude.{◌≡◌, refl, List, ◌≢◌, ℕ, ◌-◌, ◌≤◌, get_or}
use Rattle.std.proofs.Common.{sym, ap, ◌∙◌, arith}
use Rattle.paper.specs.Image.{most_character, at, reg, status, peer}
use Rattle.paper.specs.Flags.{error, pending, is_ready, waits, is_stopped}
use Rattle.paper.specs.Services.{services}
use Rattle.paper.specs.Rules.{Empty, Full, Peered, partner, Stands}
use Rattle.paper.specs.declared.Task.{Task}
use Rattle.paper.specs.declared.Shape.{Shape}
use Rattle.paper.specs.declared.Queue.{Queue}
use Rattle.paper.specs.declared.Service.{Service}
use Rattle.laws.specs.Frame.{Same, SameCount}
use Rattle.laws.specs.Room.{waits_between, waits_not, waits_on}

-- what a task that waits with a service must hold
abbrev pub Standing : Shape → List ℕ → Task → Service → Type 0
Standing s im i Service.Send = (pending s im i ≡ 1) × Peered s im i × Full s im (Queue.Message i (partner s im i))
Standing s im i Service.Receive = (pending s im i ≡ 2) × Peered s im i × Empty s im (Queue.Message (partner s im i) i)
Standing s im i Service.Input = (pending s im i ≡ 3) × Empty s im (Queue.Input i)
Standing s im i Service.Output = (pending s im i ≡ 4) × (at s im (reg i 3) ≤ most_character) × Full s im (Queue.Output i)

-- the buffer that it waits on
abbrev pub awaits : Shape → List ℕ → Task → Service → Queue
awaits s im i Service.Send = Queue.Message i (partner s im i)
awaits s im i Service.Receive = Queue.Message (partner s im i) i
awaits s im i Service.Input = Queue.Input i
awaits s im i Service.Output = Queue.Output i

-- the rules of a status, by service and back
pub stands_as : (s : Shape) (im : List ℕ) (i : Task) → Stands s im i → (v : Service) → at s im (status i) ≡ waits v → Standing s im i v
stands_as s im i h Service.Send e = h.sends e
stands_as s im i h Service.Receive e = h.receives e
stands_as s im i h Service.Input e = h.inputs e
stands_as s im i h Service.Output e = h.outputs e

pub make_stands : (s : Shape) (im : List ℕ) (i : Task) → at s im (status i) ≤ is_stopped
    → ((v : Service) → at s im (status i) ≡ waits v → Standing s im i v)
    → (at s im (status i) ≡ is_stopped → error s im i ≢ 0)
    → (at s im (status i) ≢ waits Service.Send → at s im (status i) ≢ waits Service.Receive → at s im (peer i) ≡ 0)
    → Stands s im i
make_stands s im i k w x p =
    record { known = k; sends = w Service.Send; receives = w Service.Receive; inputs = w Service.Input; outputs = w Service.Output; stopped = x; peerless = p }

-- a ready task's status asks only that its peer is 0
pub ready_stands : (s : Shape) (im : List ℕ) (i : Task) → at s im (status i) ≡ is_ready → at s im (peer i) ≡ 0 → Stands s im i
ready_stands s im i e p =
    make_stands s im i (omega (arith, e)) (λ v f. absurd (waits_not v (sym e ∙ f))) (λ f. absurd (let z : ◌≡◌ {A = ℕ} 0 5 = sym e ∙ f in omega arith)) (λ _ _. p)

-- a status tells its service
abbrev back : ℕ → Service
back k = get_or services (k - 1) Service.Send

back_waits : (v : Service) → back (waits v) ≡ v
back_waits Service.Send = refl
back_waits Service.Receive = refl
back_waits Service.Input = refl
back_waits Service.Output = refl

pub waits_one : (v u : Service) → waits v ≡ waits u → v ≡ u
waits_one v u e = sym (back_waits v) ∙ ap back e ∙ back_waits u

-- services that name a task, and those that do not
abbrev pub Alone : Service → Type 0
Alone Service.Send = ⊥
Alone Service.Receive = ⊥
Alone Service.Input = Unit {0}
Alone Service.Output = Unit {0}

-- a task that waits with a service stands, where its own rule holds
pub waiting_stands : (s : Shape) (im : List ℕ) (i : Task) (v : Service) → at s im (status i) ≡ waits v → Standing s im i v
    → (Alone v → at s im (peer i) ≡ 0) → Stands s im i
waiting_stands s im i v e st p =
    make_stands s im i (omega (arith, e, waits_between v)) (λ u f. rw (sym (waits_one v u (sym e ∙ f))) st) (λ f. absurd (waits_on v (sym f ∙ e)))
    (λ a b. p (alone v (λ f. a (e ∙ f)) (λ f. b (e ∙ f))))
  where
    alone : (v : Service) → waits v ≢ waits Service.Send → waits v ≢ waits Service.Receive → Alone v
    alone Service.Send a b = absurd (a refl)
    alone Service.Receive a b = absurd (b refl)
    alone Service.Input a b = tt
    alone Service.Output a b = tt

-- where the words that the rules read, and the buffer that it waits on, are as they were, the rules hold as they did
module _ (s : Shape) (im im' : List ℕ) (i : Task) (e : Same s im im' i) where
  standing_frame : (v : Service) → SameCount s im im' (awaits s im i v) → Standing s im i v → Standing s im' i v
  standing_frame Service.Send (a, b) h =
      (rw e.of_flags h.0, (rw (e.of_two, e.of_peer) h.1.0, rw e.of_peer h.1.1), rw (e.of_peer, a, b) h.2)
  standing_frame Service.Receive (a, b) h =
      (rw e.of_flags h.0, (rw (e.of_two, e.of_peer) h.1.0, rw e.of_peer h.1.1), rw (e.of_peer, a) h.2)
  standing_frame Service.Input (a, b) h = (rw e.of_flags h.0, rw a h.1)
  standing_frame Service.Output (a, b) h = (rw e.of_flags h.0, rw e.of_three h.1, rw (a, b) h.2)

  pub stands_frame : ((v : Service) → at s im (status i) ≡ waits v → SameCount s im im' (awaits s im i v)) → Stands s im i → Stands s im' i
  stands_frame f h =
      make_stands s im' i (rw e.of_status h.known) (λ v g.
      let k : at s im (status i) ≡ waits v = sym e.of_status ∙ g in
      standing_frame v (f v k) (stands_as s im i h v k))
      (rw (e.of_status, e.of_flags) h.stopped)
      (rw (e.of_status, e.of_peer) h.peerless)

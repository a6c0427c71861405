-- A task that is not ready finds room in the ready queue of a good image, by the count of those that stand there. Assumes nothing.
use Rattle.std.specs.Prelude.{◌≡◌, List, false, ◌≢◌, ℕ, ◌<◌, ◌≤◌, length}
use Rattle.std.proofs.Common.{arith}
use Rattle.std.proofs.Math.Logic.{dite}
use Rattle.std.proofs.Math.Decide.{ℕ_discrete, dec_lt}
use borrow.Author.Tests.{ne_eqb}
use Rattle.paper.specs.Image.{task, at, status}
use Rattle.paper.specs.Queues.{count, capacity, held, full}
use Rattle.paper.specs.Flags.{is_ready}
use Rattle.paper.specs.Rules.{times, Queued, Good}
use Rattle.paper.specs.declared.Task.{Task}
use Rattle.paper.specs.declared.Shape.{Shape}
use Rattle.paper.specs.declared.Queue.{Queue}
use Rattle.laws.specs.Queues.{held_length}
use Rattle.laws.specs.Events.{Lawful, good}
use Rattle.laws.specs.Room.{fewer, Listed, listed_none, Roomy, good_listed}

module _ (s : Shape) (im : List ℕ) (l : Listed s im) where
  ready_below : (x : ℕ) → s.n ≤ x → times x (held s im Queue.Ready) ≡ 0
  ready_below x h = (l (task x)).1 (λ r. omega (arith, r.0))

  ready_once : (x : ℕ) → times x (held s im Queue.Ready) ≤ 1
  ready_once x =
      dite (dec_lt x s.n) (λ h.
      dite (ℕ_discrete (at s im (status (task x))) is_ready) (λ e. omega (arith, (l (task x)).0 (h, e))) (λ ne. omega (arith, (l (task x)).1 (λ r. ne r.1))))
      (λ h. omega (arith, ready_below x (omega arith)))

  -- so where a task is not ready the queue has room
  module _ (i : Task) (hi : i.0 < s.n) (ne : at s im (status i) ≢ is_ready) where
    pub listed_few : length (held s im Queue.Ready) < s.n
    listed_few = fewer s.n (held s im Queue.Ready) ready_below ready_once i.0 hi (listed_none s im l i hi ne)

    pub listed_room : Queued s im Queue.Ready → full s im Queue.Ready ≡ false
    unfolding full
    listed_room q =
        let n = held_length s im Queue.Ready in
        ne_eqb (at s im (count s Queue.Ready)) (at s im (capacity s Queue.Ready)) (λ e. omega (arith, n, listed_few, e, q.sized))

-- a good image is such
pub good_roomy : {s : Shape} {im : List ℕ} → Good s im → Roomy s im
unfolding Roomy
good_roomy {s} {im} g i hi ne = listed_room s im (good_listed g) i hi ne (g.queues Queue.Ready tt)

pub lawful_roomy : (s : Shape) (im : List ℕ) → Lawful s im → Roomy s im
lawful_roomy s im h = good_roomy (good h)

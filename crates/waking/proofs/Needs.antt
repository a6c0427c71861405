-- What the calls of this crate ask and make, as laws over values. Assumes nothing.
use mathlib.Core.Path.{◌≡◌, ◌∙◌}
use mathlib.Core.List.{List}
use mathlib.Core.Bool.{Bool, true, false}
use Prim.Native.Nat.{ℕ, ◌<◌}
use Rattle.paper.specs.Image.{at, put, clock, status, peer}
use Rattle.paper.specs.Queues.{count, capacity, appended, taken, empty, full}
use Rattle.paper.specs.Waking.{dispatched, with_status, readied, woken, left}
use Rattle.paper.specs.declared.Task.{Task}
use Rattle.paper.specs.declared.Shape.{Shape}
use Rattle.paper.specs.declared.Queue.{Queue}
use Rattle.laws.specs.Cells.{cells}
use Rattle.laws.specs.Sound.{Sound}

-- the clock, as the ready queue tells
module _ (s : Shape) (im out : List ℕ) (b : Bool) (eb : b ≡ empty s im Queue.Ready) where
  pub dispatched_none : b ≡ true → out ≡ put s im clock 0 → out ≡ dispatched s im
  unfolding dispatched
  dispatched_none t eo = rw (← eb, t) eo

  pub dispatched_some : b ≡ false → out ≡ put s im clock s.slice → out ≡ dispatched s im
  unfolding dispatched
  dispatched_some t eo = rw (← eb, t) eo

module _ (s : Shape) (im m out : List ℕ) (i : Task) where
  pub statused : (k p : ℕ) → m ≡ put s im (status i) k → out ≡ put s m (peer i) p → out ≡ with_status s im i k p
  unfolding with_status
  statused k p em eo = rw (← em) eo

  pub made_ready : m ≡ with_status s im i 0 0 → out ≡ appended s m Queue.Ready i.0 → out ≡ readied s im i
  unfolding readied
  made_ready em eo = rw (← em) eo

-- a status written leaves the ready queue's room as it was
module _ (s : Shape) (im : List ℕ) (i : Task) (h : Sound s im) (hi : i.0 < s.n) where
  full_kept : (k p : ℕ) → full s (with_status s im i k p) Queue.Ready ≡ full s im Queue.Ready
  unfolding full with_status
  full_kept k p =
      let c : at s (put s (put s im (status i) k) (peer i) p) (count s Queue.Ready) ≡ at s im (count s Queue.Ready) = search cells in
      let d : at s (put s (put s im (status i) k) (peer i) p) (capacity s Queue.Ready) ≡ at s im (capacity s Queue.Ready) = search cells in
      rw (c, d)

  pub room_kept : (m : List ℕ) (k p : ℕ) → m ≡ with_status s im i k p → full s im Queue.Ready ≡ false → full s m Queue.Ready ≡ false
  room_kept m k p e f = rw e (full_kept k p ∙ f)

-- waking, as the ready queue was
module _ (s : Shape) (im m out : List ℕ) (i : Task) (b : Bool) (eb : b ≡ empty s im Queue.Ready) (em : m ≡ readied s im i) where
  pub woken_alone : b ≡ true → out ≡ dispatched s m → out ≡ woken s im i
  unfolding woken
  woken_alone t eo = rw (← eb, t, ← em) eo

module _ (s : Shape) (im m : List ℕ) (i : Task) (b : Bool) (eb : b ≡ empty s im Queue.Ready) (em : m ≡ readied s im i) where
  pub woken_among : b ≡ false → m ≡ woken s im i
  unfolding woken
  woken_among t = rw (← eb, t) em

pub gone : (s : Shape) (im m out : List ℕ) → m ≡ taken s im Queue.Ready → out ≡ dispatched s m → out ≡ left s im
unfolding left
gone s im m out em eo = rw (← em) eo

-- One `search cells` reads through twelve nested writes: to a cell that none of them meets, and to one in their midst. Assumes nothing.
use mathlib.Core.Path.{◌≡◌}
use mathlib.Core.List.{List}
use mathlib.Core.Logic.{◌≢◌}
use Prim.Native.Nat.{ℕ, ◌<◌}
use lib.ListN.{length}
use Rattle.paper.specs.Image.{total, at, put, clock, reg, flags, status, peer, busy, character}
use Rattle.paper.specs.Queues.{head, tail, count, appended, taken}
use Rattle.paper.specs.Rules.{Queued}
use Rattle.paper.specs.declared.Task.{Task}
use Rattle.paper.specs.declared.Shape.{Shape}
use Rattle.paper.specs.declared.Queue.{Queue}
use Rattle.laws.specs.Cells.{cells}
use Rattle.laws.specs.Queues.{queues}

abbrev below : Shape → List ℕ → Task → ℕ → List ℕ
below s im i v =
    put s (put s (put s (put s (put s (put s im clock v) (reg i 0) v) (reg i 3) v) (status i) v) (peer i) v) (busy i) v

abbrev above : Shape → List ℕ → Task → Task → ℕ → List ℕ
above s im i j v =
    put s (put s (put s (put s (put s (put s im (character i) v) (tail s Queue.Ready) v) (count s Queue.Ready) v)
    (head s (Queue.Input i)) v) (flags i) v) (reg j 3) v

module _ (s : Shape) (im : List ℕ) (long : length im ≡ total s) (i j : Task) (hi : i.0 < s.n) (hj : j.0 < s.n) (ne : j.0 ≢ i.0) (v : ℕ) where
  pub kept : at s (above s (below s im i v) i j v) (status j) ≡ at s im (status j)
  kept = search cells

  pub found : at s (above s (put s (below s im i v) (flags j) 7) i j v) (flags j) ≡ 7
  found = search cells

-- and with `queues` past words that were taken and appended
module _ (s : Shape) (im : List ℕ) (long : length im ≡ total s) (j : Task) (hj : j.0 < s.n) (v : ℕ) (ready : Queued s im Queue.Ready) (some : 0 < at s im (count s Queue.Ready)) where
  pub past : at s (put s (appended s (taken s im Queue.Ready) Queue.Ready v) clock v) (status j) ≡ at s im (status j)
  past = search (cells, queues)

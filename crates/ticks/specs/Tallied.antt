-- The counts after ticks; shut, as contracts say it.
use Rattle.std.specs.Prelude.{◌≡◌, List, Bool, not, ℕ, zero, suc, eqb}
use Rattle.paper.specs.Flags.{error_of}
use Rattle.paper.specs.Events.{tick}
use Rattle.paper.specs.Counts.{tally, counted}
use Rattle.paper.specs.declared.Task.{Task}
use Rattle.paper.specs.declared.Shape.{Shape}
use Rattle.noting.specs.Noted.{orders_counted}
use Rattle.ticks.specs.Ticks.{ticked}

-- the counts after so many ticks
unfoldable pub tallied : Shape → List ℕ → ℕ → List ℕ → List ℕ
tallied s im zero counts = counts
tallied s im (suc k) counts = counted (tallied s im k counts) (tally (tick s (ticked s im k)).answer)

-- whether the last order of a row has faulted, as the flags after it tell
abbrev pub faulted_by : ℕ → Bool
faulted_by f = not (eqb (error_of f) 0)

-- orders in a row are counted so, whatever the counts
unfoldable pub RowCounted : Shape → List ℕ → ℕ → Task → ℕ → Type 0
RowCounted s im n i f = (counts : List ℕ) → tallied s im n counts ≡ orders_counted counts i n (faulted_by f)

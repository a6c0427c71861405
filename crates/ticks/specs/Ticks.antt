-- Ticks one after another.
use Rattle.std.specs.Prelude.{◌≡◌, List, ℕ, zero, suc, ◌-◌, ◌<◌}
use Rattle.paper.specs.Waking.{answered}
use Rattle.paper.specs.Events.{tick}
use Rattle.paper.specs.declared.Shape.{Shape}
use Rattle.paper.specs.declared.Answer.{Answer}

-- the image after so many ticks
abbrev pub ticked : Shape → List ℕ → ℕ → List ℕ
ticked s im zero = im
ticked s im (suc k) = (tick s (ticked s im k)).image

-- n ticks from im lead to out, and a is the answer of the last; shut, as contracts say it
unfoldable pub Told : Shape → List ℕ → ℕ → Answer → List ℕ → Type 0
Told s im n a out = (0 < n) × (answered a out ≡ tick s (ticked s im (n - 1)))

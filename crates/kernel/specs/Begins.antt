-- What a run begins with.
use Rattle.std.specs.Prelude.{◌≡◌, List, ℕ, Err, Ok, Result}
use Rattle.paper.specs.Image.{shape_of}
use Rattle.paper.specs.Calls.{check_run}
use Rattle.paper.specs.declared.Shape.{Shape}
use Rattle.paper.specs.declared.Refusal.{Refusal}

-- the shape of a good image, where the list holds whole events; or the refusal of a run over it
abbrev pub Begins : List ℕ → List ℕ → Result Shape Refusal → Type 0
Begins im events (Ok s) = (check_run im events ≡ Ok tt) × (s ≡ shape_of im)
Begins im events (Err r) = check_run im events ≡ Err r

-- What one inspection of an image tells.
use Rattle.std.specs.Prelude.{◌≡◌, List, ℕ, Err, Ok, Result}
use Rattle.paper.specs.Image.{shape_of}
use Rattle.paper.specs.Numbers.{check}
use Rattle.paper.specs.declared.Shape.{Shape}
use Rattle.paper.specs.declared.Refusal.{Refusal}

-- the shape that the header of a good image gives; or the refusal of one that is not good
abbrev pub Inspects : List ℕ → Result Shape Refusal → Type 0
Inspects im (Ok s) = (check im ≡ Ok tt) × (s ≡ shape_of im)
Inspects im (Err r) = check im ≡ Err r

-- Cells and the places where they lie. Assumes nothing.
use mathlib.Core.Path.{◌≡◌, ap}
use mathlib.Core.List.{List}
use Prim.Native.Nat.{ℕ, ◌<◌}
use native.Mathlib.Omega.{arith}
use lib.ListN.{length}
use Rattle.paper.specs.Image.{Valid, word, place, at}
use Rattle.paper.specs.declared.Place.{Place}
use Rattle.paper.specs.declared.Shape.{Shape}
use Rattle.paper.specs.declared.Cell.{Cell}
use Rattle.laws.specs.Places.{below}
use Rattle.laws.specs.Sound.{Sized, sized_words}

-- the place of a cell lies in the image, and the word there is the cell's
module _ (s : Shape) (im : List ℕ) (c : Cell) (p : Place) (e : p ≡ place s c) where
  pub cell_inside : Sized s im → Valid s c → p.0 < length im
  cell_inside h v = omega (arith, ap (λ (x : Place). x.0) e, below s c v, sized_words s im h)

  pub cell_word : (r : ℕ) → r ≡ word im p → r ≡ at s im c
  unfolding at
  cell_word r er = rw (er, e)

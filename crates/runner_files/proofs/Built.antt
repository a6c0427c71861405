-- The image of an accepted plan: it fits, and is good once it is built. Assumes nothing.
use mathlib.Core.Path.{◌≡◌}
use mathlib.Core.List.{List}
use Prim.Native.Nat.{ℕ, ◌≤◌}
use borrow.Author.Tests.{eq-eqb}
use lib.ListN.{length}
use Rattle.paper.specs.Image.{most_words, total}
use Rattle.paper.specs.Plans.{plan_shape, fresh}
use Rattle.paper.specs.Numbers.{check_build}
use Rattle.paper.specs.Calls.{built}
use Rattle.paper.specs.Promises.{Builds}
use Rattle.paper.specs.declared.Shape.{Shape}
use Rattle.laws.specs.Fresh.{planned, fresh_good}
use Rattle.laws.specs.Events.{Lawful, lawful}
use Rattle.fresh_parts.specs.Accepted.{Plan}

module _ (s : Shape) (plan : List ℕ) (p : Plan s plan) where
  -- an accepted plan's image fits
  pub image_fits : (n : ℕ) → n ≡ total s → n ≤ most_words
  image_fits n e = rw (e, p.shape) (planned plan p.fine).fit.words

  -- what is built in its place
  built_fresh : (target : List ℕ) → length target ≡ total s → built plan target ≡ fresh plan
  unfolding built check_build
  built_fresh target e =
      let l : length target ≡ total (plan_shape plan) = rw p.shape at e in
      rw (p.fine, eq-eqb (length target) (total (plan_shape plan)) l)

  -- is a good image
  pub built_lawful : (target after : List ℕ) (answer : ℕ) → length target ≡ total s → Builds plan target answer after → Lawful s after
  built_lawful target after answer e b = rw (b.left, built_fresh target e, p.shape) (lawful (fresh_good plan p.fine))

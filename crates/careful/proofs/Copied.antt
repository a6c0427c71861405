-- A copy of an image. Assumes nothing.
use Rattle.std.specs.Prelude.{Result}
use mathlib.Core.Path.{◌≡◌, ap, ◌∙◌}
use mathlib.Core.List.{List}
use Prim.Native.Nat.{ℕ, ◌≤◌}
use native.Mathlib.Omega.{arith}
use lib.ListN.{length, take}
use lib.Seq.{length-take-le}
use Rattle.paper.specs.Image.{most_words}
use Rattle.paper.specs.Waking.{outcome}
use Rattle.paper.specs.Events.{happening}
use Rattle.paper.specs.declared.Shape.{Shape}
use Rattle.paper.specs.declared.Event.{Event}
use Rattle.laws.specs.Sound.{sound}
use Rattle.laws.specs.Events.{Lawful}
use Rattle.happening.proofs.Taking.{lawful_sound}
use Rattle.paper.specs.declared.Answer.{Answer}
use Rattle.paper.specs.declared.Refusal.{Refusal}

-- a lawful image has at most 32768 words
pub lawful_words : (s : Shape) (im : List ℕ) → Lawful s im → length im ≤ most_words
lawful_words s im h = let g = sound (lawful_sound s im h) in omega (arith, g.laid.words, g.laid.fit.words)

-- so it fits a part of the copy
pub copy_long : (s : Shape) (im copy : List ℕ) → Lawful s im → length copy ≡ most_words → length (take (length im) copy) ≡ length im
copy_long s im copy h e = length-take-le (length im) copy (omega (arith, lawful_words s im h, e))

-- a copy of the image is as lawful, and tells the reply
module _ (s : Shape) (im copy : List ℕ) (b : copy ≡ im) where
  pub copy_lawful : Lawful s im → Lawful s copy
  copy_lawful h = rw b h

  pub copy_tells : (v : Event) (r : Result Answer Refusal) (out : List ℕ) → outcome r out ≡ happening s copy v → r ≡ (happening s im v).reply
  copy_tells v r out h = ap (λ o. o.reply) h ∙ ap (λ i. (happening s i v).reply) b

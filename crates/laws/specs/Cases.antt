-- What a test decides. Assumes nothing.
use Rattle.std.specs.Prelude.{◌≡◌, refl, Bool, true, false, cond}

-- whatever holds of both sides, each where the test says so, holds of what it picks
pub when : {A : Type 0} (P : A → Type 0) (b : Bool) {x y : A} → (b ≡ true → P x) → (b ≡ false → P y) → P (cond b x y)
when P true f g = f refl
when P false f g = g refl

-- A test fails where one that it implies does. Assumes nothing.
use Rattle.std.specs.Prelude.{◌≡◌, refl, Bool, true, false, not}
use Rattle.std.proofs.Common.{sym, ◌∙◌, true≢false}
use Rattle.std.proofs.lemmas.Bool.{not-true}

pub refuted : (whole : Bool) → ¬ (whole ≡ true) → false ≡ whole
refuted true n = absurd (n refl)
refuted false n = refl

pub part_fails : (whole part b : Bool) → (whole ≡ true → part ≡ true) → b ≡ part → not b ≡ true → false ≡ whole
part_fails whole part b f e n = refuted whole (λ h. true≢false (sym (f h) ∙ sym e ∙ not-true b n))

-- two tests that pass together are one
pub together : (a b : Bool) → (a ≡ true → b ≡ true) → (b ≡ true → a ≡ true) → a ≡ b
together true b f g = sym (f refl)
together false b f g = refuted b (λ e. true≢false (sym (g e)))

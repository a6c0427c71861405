-- The wrapped step, and several steps on: as the paper's remainder. Assumes nothing.
use Rattle.std.specs.Prelude.{◌≡◌, refl, ◌≢◌, ◌↔◌, ◌⊎◌, ℕ, zero, suc, ◌+◌, ◌-◌, ◌%◌, ◌<◌, ◌≤◌, ltb}
use Rattle.std.proofs.Common.{sym, ap, ◌∙◌, inl, inr, ⊎_elim, mod-eq_of_lt, add-zero, zero-add, suc-add, arith, ltb-true, ltb-false}
use Rattle.std.proofs.Math.Logic.{dite}
use Rattle.std.proofs.Math.Nat.{mod-eq-sub-mod, mod-add-mod}
use Rattle.std.proofs.Math.Decide.{dec_lt}
use Rattle.paper.specs.Queues.{step}
use Rattle.laws.specs.Cases.{when}

-- one more, or 0 where the capacity is reached
pub step_cases : (k c : ℕ) → ((k + 1 < c) × (step k c ≡ k + 1)) ⊎ ((c ≤ k + 1) × (step k c ≡ 0))
unfolding step
step_cases k c =
    when (λ x. ((k + 1 < c) × (x ≡ k + 1)) ⊎ ((c ≤ k + 1) × (x ≡ 0))) (ltb (k + 1) c) (λ e. inl (ltb-true (k + 1) c e, refl))
    (λ e. inr (ltb-false (k + 1) c e, refl))

-- a step stays below the capacity
pub step_below : (k c : ℕ) → k < c → step k c < c
step_below k c h = ⊎_elim (λ a. omega arith) (λ a. omega arith) (step_cases k c)

-- a remainder of a number below twice the divisor
pub mod_low : {x c : ℕ} → x < c → x % c ≡ x
mod_low h = mod-eq_of_lt h

pub mod_high : {x c : ℕ} → c ≤ x → x < c + c → x % c ≡ x - c
mod_high {x} {c} h l = mod-eq-sub-mod h ∙ mod-eq_of_lt (omega arith)

-- a step is a remainder
pub step_mod : (k c : ℕ) → k < c → step k c ≡ (k + 1) % c
step_mod k c h =
    ⊎_elim (λ a. a.1 ∙ sym (mod_low a.0))
    (λ a. omega (arith, mod_high {x = k + 1} {c = c} a.0 (omega arith)))
    (step_cases k c)

-- n steps on from slot h
abbrev pub steps : ℕ → ℕ → ℕ → ℕ
steps h zero c = h
steps h (suc n) c = steps (step h c) n c

pub steps_mod : (h n c : ℕ) → h < c → steps h n c ≡ (h + n) % c
steps_mod h zero c l = sym (ap (λ (x : ℕ). x % c) (add-zero h) ∙ mod_low l)
steps_mod h (suc n) c l =
    steps_mod (step h c) n c (step_below h c l) ∙ ap (λ (x : ℕ). (x + n) % c) (step_mod h c l) ∙
    mod-add-mod (h + 1) c n ∙ ap (λ (x : ℕ). x % c) (omega arith)

pub steps_below : (h n c : ℕ) → h < c → steps h n c < c
steps_below h zero c l = l
steps_below h (suc n) c l = steps_below (step h c) n c (step_below h c l)

-- one step further is one step from there
pub steps_on : (h n c : ℕ) → steps h (suc n) c ≡ step (steps h n c) c
steps_on h zero c = refl
steps_on h (suc n) c = steps_on (step h c) n c

-- so many steps and then so many more
pub steps_add : (h n m c : ℕ) → steps h (n + m) c ≡ steps (steps h n c) m c
steps_add h zero m c = ap (λ (x : ℕ). steps h x c) (zero-add m)
steps_add h (suc n) m c = ap (λ (x : ℕ). steps h x c) (suc-add n m) ∙ steps_add (step h c) n m c

-- capacity steps come back
pub steps_round : (h c : ℕ) → h < c → steps h c c ≡ h
steps_round h c l = steps_mod h c c l ∙ mod_high {x = h + c} {c = c} (omega arith) (omega arith) ∙ omega arith

-- each slot is some steps on from any other
pub steps_to : (h k c : ℕ) → h < c → k < c → (j : ℕ) × (j < c) × (steps h j c ≡ k)
steps_to h k c hc hk =
    dite (dec_lt k h)
    (λ l. (k + c - h, omega arith, steps_mod h (k + c - h) c hc ∙ ap (λ (x : ℕ). x % c) (omega arith) ∙ mod_high {x = k + c} {c = c} (omega arith) (omega arith) ∙ omega arith))
    (λ n. (k - h, omega arith, steps_mod h (k - h) c hc ∙ ap (λ (x : ℕ). x % c) (omega arith) ∙ mod_low hk))

-- where that many steps lead, without a remainder
pub steps_far : (h n c : ℕ) → h < c → n < c → ((h + n < c) × (steps h n c ≡ h + n)) ⊎ ((c ≤ h + n) × (steps h n c ≡ h + n - c))
steps_far h n c hc hn =
    dite (dec_lt (h + n) c) (λ l. inl (l, steps_mod h n c hc ∙ mod_low l))
    (λ m. inr (omega arith, steps_mod h n c hc ∙ mod_high {x = h + n} {c = c} (omega arith) (omega arith)))

-- slot k lies outside of n slots from slot h on, of c slots
abbrev pub Outside : ℕ → ℕ → ℕ → ℕ → Type 0
Outside h n c k = (k < h → h + n ≤ k + c) × (h ≤ k → h + n ≤ k)

-- the slots from the end of those on, round to their start, are those outside of them
pub outside_steps : (P : ℕ → Type 0) (h n c t : ℕ) → h < c → n ≤ c → steps h n c ≡ t
    → ((i : ℕ) → i < c - n → P (steps t i c)) ↔ ((k : ℕ) → k < c → Outside h n c k → P k)
outside_steps P h n c t hc hn e =
    let from : (i : ℕ) → steps t i c ≡ steps h (n + i) c = λ i. sym (steps_add h n i c ∙ ap (λ (x : ℕ). steps x i c) e) in (
      λ f k l out.
          let way = steps_to h k c hc l in
          let j = way.0 in
          let late : n ≤ j =
          ⊎_elim (λ a. omega (arith, way.2, out.1 (omega (arith, way.2)))) (λ a. omega (arith, way.2, out.0 (omega (arith, way.2, way.1))))
          (steps_far h j c hc way.1) in
          let parts : n + (j - n) ≡ j = omega arith in
          let there : steps t (j - n) c ≡ k = from (j - n) ∙ ap (λ (x : ℕ). steps h x c) parts ∙ way.2 in
          rw there at (f (j - n) (omega (arith, way.1))),
      λ f i l.
          f (steps t i c) (rw (from i) (steps_below h (n + i) c hc))
          (⊎_elim (λ a. (λ b. omega (arith, from i), λ b. omega (arith, from i))) (λ a. (λ b. omega (arith, from i), λ b. omega (arith, from i)))
          (steps_far h (n + i) c hc (omega arith))),
    )

-- fewer than capacity steps do not come back
steps_away : (h n c : ℕ) → h < c → suc n < c → h ≢ steps h (suc n) c
steps_away h n c hc hn e =
    let f : h ≡ (h + suc n) % c = e ∙ steps_mod h (suc n) c hc in
    dite (dec_lt (h + suc n) c) (λ l. omega (arith, f, mod_low l)) (λ g. omega (arith, f, mod_high {x = h + suc n} {c = c} (omega (arith, g)) (omega arith)))

pub steps_apart : (h k n c : ℕ) → h < c → k < n → n < c → steps h k c ≢ steps h n c
steps_apart h k zero c hc hk hn e = omega arith
steps_apart h zero (suc n) c hc hk hn e = steps_away h n c hc hn e
steps_apart h (suc k) (suc n) c hc hk hn e =
    steps_apart (step h c) k n c (step_below h c hc) (omega arith) (omega arith) e

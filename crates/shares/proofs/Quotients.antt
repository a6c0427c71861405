-- A division of two floats that hold whole numbers rounds their quotient, and rounds once. Assumes nothing.
use mathlib.Core.Path.{◌≡◌, sym, ap, ◌∙◌, subst}
use mathlib.Core.Bool.{Bool, true, false, cond, true≢false}
use Prim.Native.Nat.{ℕ, ◌*◌, ◌^◌, ◌<◌, ◌≤◌}
use native.Mathlib.Nat.{mul-one, mul-pos, lt_irrefl}
use native.Mathlib.Omega.{arith}
use lib.IntN.{pos}
use lib.Dec.{eqb}
use borrow.Author.Tests.{ne_eqb}
use lib.Ieee.{Float, nan, inf, fin, Format, prec, up, down, round, div, of_int}
use lib.Ieee.Fits.{down_pos}
use lib.Ieee.Exact.{HasValue}
use lib.Ieee.Back.{round_whole}
use lib.Ieee.Positive.{first_pos}
use lib.Ieee.Scale.{round_same}

-- where x is a times u and y is b times v, x to y is as a to b when u and v are changed over
spread : (a b u v : ℕ) → a * u * v * b ≡ a * (b * v * u)
spread a b u v = omega arith

ratio : (a b x y u v : ℕ) → x ≡ a * u → y ≡ b * v → x * v * b ≡ a * (y * u)
ratio a b x y u v p q = ap (λ (t : ℕ). t * v * b) p ∙ spread a b u v ∙ ap (λ (t : ℕ). a * (t * u)) (sym q)

-- what a float that is written as m times 2 ^ e and has a whole number's value says
whole_says : (m a u d : ℕ) → m * u * 1 ≡ a * d → m * u ≡ a * d
whole_says m a u d p = sym (mul-one (m * u)) ∙ p

not_zero : (n b u d : ℕ) → 0 < b → 0 < d → n * u ≡ b * d → eqb n 0 ≡ false
not_zero n b u d h k p =
    ne_eqb n 0 (λ (g : n ≡ 0). lt_irrefl 0 (subst (λ (t : ℕ). 0 < t) g (first_pos n u (subst (λ (t : ℕ). 0 < t) (sym p) (mul-pos h k)))))

divided : (f : Format) (x y : Float) (a b : ℕ) → 0 < b → HasValue x false a 1 → HasValue y false b 1 → div f x y ≡ round f false a b
unfolding div
divided f nan y a b h p q = absurd p
divided f (inf s) y a b h p q = absurd p
divided f (fin true m e) y a b h p q = absurd (true≢false p.0)
divided f (fin false m e) nan a b h p q = absurd q
divided f (fin false m e) (inf t) a b h p q = absurd q
divided f (fin false m e) (fin true n d) a b h p q = absurd (true≢false q.0)
divided f (fin false m e) (fin false n d) a b h p q =
    let x = whole_says m a (up e) (down e) p.1 in
    let y = whole_says n b (up d) (down d) q.1 in
    let above : 0 < n * up d = subst (λ (t : ℕ). 0 < t) (sym y) (mul-pos h (down_pos d)) in
    ap (λ (t : Bool). cond t (cond (eqb m 0) nan (inf false)) (round f false (m * up e * down d) (n * up d * down e)))
    (not_zero n b (up d) (down d) h (down_pos d) y)
    ∙ round_same f false (m * up e * down d) (n * up d * down e) a b (mul-pos above (down_pos e)) h
    (ratio a b (m * up e) (n * up d) (down e) (down d) x y)

-- whole numbers that the format holds, made floats and divided
pub quotient_rounded : (f : Format) (a b : ℕ) → 0 < b → a ≤ 2 ^ prec f → b ≤ 2 ^ prec f
    → div f (of_int f (pos a)) (of_int f (pos b)) ≡ round f false a b
unfolding of_int
quotient_rounded f a b h p q = divided f (round f false a 1) (round f false b 1) a b h (round_whole f false a p) (round_whole f false b q)

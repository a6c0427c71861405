-- The four leading words of a queue, as code tests them: the remainder without a division, a queue never used at a look. Assumes nothing.
use mathlib.Core.Path.{◌≡◌, refl, sym, ◌∙◌}
use mathlib.Core.Bool.{Bool, true, false, ◌&&◌, ◌||◌, and-false, or-false}
use mathlib.Core.Logic.{◌≢◌, dite}
use Prim.Native.Nat.{ℕ, ◌+◌, ◌-◌, ◌*◌, ◌%◌, ◌<◌, ◌≤◌}
use native.Mathlib.Decide.{ℕ_discrete, dec_lt}
use native.Mathlib.Omega.{arith}
use borrow.Author.Tests.{lt-ltb, le-ltb, le-leb, lt-leb, eqb-true, eq-eqb, ne_eqb}
use lib.Dec.{eqb}
use Rattle.laws.specs.Steps.{mod_low, mod_high}
use Rattle.queue_rows.specs.BufferRows.{leads}

-- a slot at most once past the end
pub wrapped_low : (x c : ℕ) → x < c → x ≡ x % c
wrapped_low x c h = sym (mod_low h)

pub wrapped_high : (x c : ℕ) → c ≤ x → x < c + c → x - c ≡ x % c
wrapped_high x c h l = sym (mod_high h l)

five : (a b c d e : Bool) → a ≡ true → b ≡ true → c ≡ true → d ≡ true → true ≡ e → true ≡ (a && b && c && d && e)
five a b c d e ea eb ec ed ee = rw (ea, eb, ec, ed) ee

-- where head and tail are slots and no more words are held than there are slots: the remainder is the tail just where the sum is, or once past the end
round_or_not : (given h t n : ℕ) → h < given → t < given → n ≤ given → (eqb (h + n) t || eqb (h + n) (t + given)) ≡ eqb ((h + n) % given) t
round_or_not given h t n low below short =
    dite (dec_lt (h + n) given) (λ l. rw (mod_low l, ne_eqb (h + n) (t + given) (λ e. omega arith)) (or-false _))
    (λ o.
    let high : given ≤ h + n = omega (arith, o) in
    let once : h + n < given + given = omega arith in
    rw (mod_high high once, ne_eqb (h + n) t (λ e. omega arith))
    (dite (ℕ_discrete (h + n) (t + given)) (λ e. eq-eqb _ _ e ∙ sym (eq-eqb (h + n - given) t (omega arith)))
    (λ ne. ne_eqb _ _ ne ∙ sym (ne_eqb (h + n - given) t (λ e. ne (omega arith))))))

-- the words as code has them, and as numbers
module _ (given h t n c g h1 t1 n1 : ℕ) (ec : g ≡ c) (eh : h1 ≡ h) (et : t1 ≡ t) (en : n1 ≡ n) where
  pub leads_other : g ≢ given → false ≡ leads given h t n c
  leads_other ne = rw (ne_eqb c given (λ e. ne (ec ∙ e)))

  module _ (same : g ≡ given) where
    pub leads_high : given ≤ h1 → false ≡ leads given h t n c
    leads_high l = rw (le-ltb h c (omega arith), and-false)

    pub leads_past : given ≤ t1 → false ≡ leads given h t n c
    leads_past l = rw (le-ltb t c (omega arith), and-false)

    pub leads_long : given < n1 → false ≡ leads given h t n c
    leads_long l = rw (lt-leb n c (omega arith), and-false)

    pub leads_done : h1 < given → t1 < given → n1 ≤ given → (r : Bool) → r ≡ (eqb (h1 + n1) t1 || eqb (h1 + n1) (t1 + given)) → r ≡ leads given h t n c
    leads_done low below short r e =
        let ic : c ≡ given = sym ec ∙ same in
        e ∙ rw (eh, et, en, ic, eq-eqb given given refl, lt-ltb h given (omega arith), lt-ltb t given (omega arith), le-leb n given (omega arith))
        (round_or_not given h t n (omega arith) (omega arith) (omega arith))

-- the lowest word of a number that has none
lowest_none : (x y z : ℕ) → x < 65536 → x + 65536 * y ≡ 65536 * z → (x ≡ 0) × (y ≡ z)
lowest_none x y z l e = let a : x ≡ 0 = omega arith in (a, omega arith)

-- a queue never used, by its leading words as one number
pub unused_right : (given h t n c h1 t1 n1 c1 : ℕ) → 0 < given → h < 65536 → t < 65536 → n < 65536 → h1 ≡ h → t1 ≡ t → n1 ≡ n → c1 ≡ c
    → eqb (h1 + 65536 * (t1 + 65536 * (n1 + 65536 * c1))) (65536 * (65536 * (65536 * given))) ≡ true → leads given h t n c ≡ true
unused_right given h t n c h1 t1 n1 c1 some wh wt wn eh et en ec e =
    let z : h1 + 65536 * (t1 + 65536 * (n1 + 65536 * c1)) ≡ 65536 * (65536 * (65536 * given)) = eqb-true _ _ e in
    let lh = lowest_none h1 _ _ (omega arith) z in
    let lt = lowest_none t1 _ _ (omega arith) lh.1 in
    let ln = lowest_none n1 _ _ (omega arith) lt.1 in
    let ih : h ≡ 0 = sym eh ∙ lh.0 in
    let it : t ≡ 0 = sym et ∙ lt.0 in
    let in0 : n ≡ 0 = sym en ∙ ln.0 in
    let ic : c ≡ given = sym ec ∙ ln.1 in
    let hc : h < c = omega arith in
    let tc : t < c = omega arith in
    let nc : n ≤ c = omega arith in
    let sum : h + n < c = omega arith in
    let m : (h + n) % c ≡ t = mod_low sum ∙ omega arith in
    sym (five _ _ _ _ _ (eq-eqb c given ic) (lt-ltb h c hc) (lt-ltb t c tc) (le-leb n c nc) (sym (eq-eqb _ t m)))

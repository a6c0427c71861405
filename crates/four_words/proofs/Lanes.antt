-- Four words as one number, and what bits do to them: each word by itself. Assumes nothing.
use mathlib.Core.Path.{◌≡◌, refl, sym, ◌∙◌}
use mathlib.Core.List.{List}
use mathlib.Core.Logic.{◌≢◌, ◌↔◌, ◌⊎◌, inl, inr, ⊎_elim, dite}
use Prim.Native.Nat.{ℕ, ◌+◌, ◌-◌, ◌*◌, ◌/◌, ◌%◌, ◌^◌, ◌<◌, ◌≤◌}
use native.Mathlib.Nat.{mod-eq_of_lt, add-zero}
use native.Mathlib.Decide.{ℕ_discrete, dec_lt}
use native.Mathlib.Omega.{arith}
use lib.Bits.{bit_and, bit_or, bit_xor, and_block, or_block, xor_block, or_add_and, and_le_l, and_le_r, or_zero_l, or_lt, and_high, and_mask, and_zero_r, xor_zero_l, xor_zero_r, xor_self, xor_lt}
use lib.ListN.{get_or}
use Rattle.four_words.specs.FourWords.{lanes, four_at, Gathers, AllOrNone, Sieves}

-- a word
abbrev Word : ℕ → Type 0
Word x = x < 65536

-- an operation on bits that goes block by block goes word by word
module _ (op : ℕ → ℕ → ℕ) (block : (k a b r s : ℕ) → r < 2 ^ k → s < 2 ^ k → op (a * 2 ^ k + r) (b * 2 ^ k + s) ≡ op a b * 2 ^ k + op r s) where
  by_word : (a x b y : ℕ) → Word a → Word b → op (a + 65536 * x) (b + 65536 * y) ≡ op a b + 65536 * op x y
  by_word a x b y wa wb =
      let ea : a + 65536 * x ≡ x * 2 ^ 16 + a = omega arith in
      let eb : b + 65536 * y ≡ y * 2 ^ 16 + b = omega arith in
      rw (ea, eb) (block 16 x y a b wa wb ∙ omega arith)

  by_lanes : (a b c d e f g h : ℕ) → Word a → Word b → Word c → Word e → Word f → Word g
      → op (lanes a b c d) (lanes e f g h) ≡ lanes (op a e) (op b f) (op c g) (op d h)
  by_lanes a b c d e f g h wa wb wc we wf wg =
      rw (by_word a (b + 65536 * (c + 65536 * d)) e (f + 65536 * (g + 65536 * h)) wa we, by_word b (c + 65536 * d) f (g + 65536 * h) wb wf, by_word c d g h wc wg)

pub lanes_or : (a b c d e f g h : ℕ) → Word a → Word b → Word c → Word e → Word f → Word g
    → bit_or (lanes a b c d) (lanes e f g h) ≡ lanes (bit_or a e) (bit_or b f) (bit_or c g) (bit_or d h)
lanes_or = by_lanes bit_or or_block

pub lanes_and : (a b c d e f g h : ℕ) → Word a → Word b → Word c → Word e → Word f → Word g
    → bit_and (lanes a b c d) (lanes e f g h) ≡ lanes (bit_and a e) (bit_and b f) (bit_and c g) (bit_and d h)
lanes_and = by_lanes bit_and and_block

pub lanes_xor : (a b c d e f g h : ℕ) → Word a → Word b → Word c → Word e → Word f → Word g
    → bit_xor (lanes a b c d) (lanes e f g h) ≡ lanes (bit_xor a e) (bit_xor b f) (bit_xor c g) (bit_xor d h)
lanes_xor = by_lanes bit_xor xor_block

-- four words as one number are 0 where each of them is
lanes_none : (a b c d : ℕ) → (lanes a b c d ≡ 0) ↔ ((a ≡ 0) × (b ≡ 0) × (c ≡ 0) × (d ≡ 0))
lanes_none a b c d = (λ e. (omega arith, omega arith, omega arith, omega arith), λ h. omega (arith, h))

-- an or is at least both, and 0 where both are
or_left : (a b : ℕ) → a ≤ bit_or a b
or_left a b = omega (arith, or_add_and a b, and_le_r a b)

or_right : (a b : ℕ) → b ≤ bit_or a b
or_right a b = omega (arith, or_add_and a b, and_le_l a b)

or_none : (a b : ℕ) → (bit_or a b ≡ 0) ↔ ((a ≡ 0) × (b ≡ 0))
or_none a b = (λ e. (omega (arith, or_left a b), omega (arith, or_right a b)), λ h. rw (h.0, h.1) (or_zero_l 0))

-- the numbers below four
of_four : (P : ℕ → Type 0) → P 0 → P 1 → P 2 → P 3 → (k : ℕ) → k < 4 → P k
of_four P p0 p1 p2 p3 k l =
    dite (ℕ_discrete k 0) (λ e. rw e p0)
    (λ n0. dite (ℕ_discrete k 1) (λ e. rw e p1) (λ n1. dite (ℕ_discrete k 2) (λ e. rw e p2) (λ n2. let e : k ≡ 3 = omega arith in rw e p3)))

module _ (l : List ℕ) where
  -- four words have their own bits
  pub gathers_four : (at : ℕ) → Gathers l at 4 (four_at l at)
  gathers_four at =
      let first : at + 0 ≡ at = omega arith in
      record {
        a = get_or l at 0;
        b = get_or l (at + 1) 0;
        c = get_or l (at + 2) 0;
        d = get_or l (at + 3) 0;
        same = refl;
        over = λ m ha hb hc hd. of_four (λ k. get_or l (at + k) 0 ≤ m) (rw first ha) hb hc hd;
        under = λ j f. (rw first at (f 0 (omega arith)), f 1 (omega arith), f 2 (omega arith), f 3 (omega arith));
      }

  module _ (small : (k : ℕ) → get_or l k 0 < 65536) where
    -- those of two stretches that overlap or meet
    pub gathers_both : (at n r at' n' r' m : ℕ) → Gathers l at n r → Gathers l at' n' r' → at ≤ at' → at' ≤ at + n → at' + n' ≡ at + m → n ≤ m
        → Gathers l at m (bit_or r r')
    gathers_both at n r at' n' r' m g h low meet ends longer =
        let gw = g.under 16 (λ k _. small (at + k)) in
        let hw = h.under 16 (λ k _. small (at' + k)) in
        record {
          a = bit_or g.a h.a;
          b = bit_or g.b h.b;
          c = bit_or g.c h.c;
          d = bit_or g.d h.d;
          same = rw (g.same, h.same) (lanes_or _ _ _ _ _ _ _ _ gw.0 gw.1 gw.2 hw.0 hw.1 hw.2);
          over = λ v ha hb hc hd k lk.
              dite (dec_lt k n)
              (λ i. g.over v (omega (arith, or_left g.a h.a)) (omega (arith, or_left g.b h.b)) (omega (arith, or_left g.c h.c)) (omega (arith, or_left g.d h.d)) k i)
              (λ o.
              let e : at' + (at + k - at') ≡ at + k = omega (arith, o) in
              rw e at (h.over v (omega (arith, or_right g.a h.a)) (omega (arith, or_right g.b h.b)) (omega (arith, or_right g.c h.c)) (omega (arith, or_right g.d h.d)) (at + k - at') (omega (arith, o))));
          under = λ j f.
              let gj = g.under j (λ k i. f k (omega arith)) in
              let hj = h.under j (λ k i. let e : at + (at' - at + k) ≡ at' + k = omega arith in rw e at (f (at' - at + k) (omega arith))) in
              (or_lt j _ _ gj.0 hj.0, or_lt j _ _ gj.1 hj.1, or_lt j _ _ gj.2 hj.2, or_lt j _ _ gj.3 hj.3);
        }

    -- 0 where all of them are
    pub gathers_none : (at n r : ℕ) → Gathers l at n r → r ≡ 0 → (k : ℕ) → k < n → get_or l (at + k) 0 ≡ 0
    gathers_none at n r g e k i =
        let z = (lanes_none g.a g.b g.c g.d).0 (sym g.same ∙ e) in
        omega (arith, g.over 0 (omega (arith, z.0)) (omega (arith, z.1)) (omega (arith, z.2)) (omega (arith, z.3)) k i)

    -- a word without high bits is a character
    low_word : (x : ℕ) → x < 65536 → (bit_and x 65280 ≡ 0) ↔ (x < 256)
    low_word x w =
        let h : bit_and x 65280 ≡ (x / 256 % 256) * 256 = and_high x 8 8 in
        let m : x / 256 % 256 ≡ x / 256 = mod-eq_of_lt (omega arith) in
        (λ e. omega (arith, h, m), λ lt. omega (arith, h, m))

    -- no high bits where all of them are characters
    pub gathers_low : (at n r : ℕ) → Gathers l at n r → (bit_and r 18374966859414961920 ≡ 0) ↔ ((k : ℕ) → k < n → get_or l (at + k) 0 < 256)
    gathers_low at n r g =
        let w = g.under 16 (λ k _. small (at + k)) in
        let high : ◌≡◌ {A = ℕ} 18374966859414961920 (lanes 65280 65280 65280 65280) = refl in
        let e : bit_and r 18374966859414961920 ≡ lanes (bit_and g.a 65280) (bit_and g.b 65280) (bit_and g.c 65280) (bit_and g.d 65280) =
        rw (g.same, high) (lanes_and g.a g.b g.c g.d 65280 65280 65280 65280 w.0 w.1 w.2 (omega arith) (omega arith) (omega arith)) in
        let none = lanes_none (bit_and g.a 65280) (bit_and g.b 65280) (bit_and g.c 65280) (bit_and g.d 65280) in (
          λ z k i.
              let p = none.0 (sym e ∙ z) in
              omega (arith, g.over 255 (omega (arith, (low_word g.a w.0).0 p.0)) (omega (arith, (low_word g.b w.1).0 p.1)) (omega (arith, (low_word g.c w.2).0 p.2)) (omega (arith, (low_word g.d w.3).0 p.3)) k i),
          λ f.
              let u = g.under 8 f in
              e ∙ none.1 ((low_word g.a w.0).1 u.0, (low_word g.b w.1).1 u.1, (low_word g.c w.2).1 u.2, (low_word g.d w.3).1 u.3),
        )

-- a word with the bits of two marks that differ is the word, and of two that do not, nothing
other_marks : (w a b : ℕ) → w < 65536 → a ≢ b → (bit_and w 65535 ≡ 0) ↔ (a ≢ b → w ≡ 0)
other_marks w a b lw ne =
    let whole : bit_and w 65535 ≡ w = and_mask w 16 ∙ mod-eq_of_lt lw in
    (λ e _. sym whole ∙ e, λ f. whole ∙ f ne)

same_marks : (w a : ℕ) → (bit_and w (bit_xor a a) ≡ 0) ↔ (a ≢ a → w ≡ 0)
same_marks w a = rw (xor_self a) (λ _ n. absurd (n refl), λ _. and_zero_r w)

sieve_word : (w x y : ℕ) → w < 65536 → (x ≡ 0) ⊎ (x ≡ 65535) → (y ≡ 0) ⊎ (y ≡ 65535) → (bit_and w (bit_xor x y) ≡ 0) ↔ (x ≢ y → w ≡ 0)
sieve_word w x y lw (inl ex) (inl ey) = rw (ex, ey) (same_marks w 0)
sieve_word w x y lw (inl ex) (inr ey) = rw (ex, ey, xor_zero_l 65535) (other_marks w 0 65535 lw (omega arith))
sieve_word w x y lw (inr ex) (inl ey) = rw (ex, ey, xor_zero_r 65535) (other_marks w 65535 0 lw (omega arith))
sieve_word w x y lw (inr ex) (inr ey) = rw (ex, ey) (same_marks w 65535)

module _ (l marks : List ℕ) (small : (k : ℕ) → get_or l k 0 < 65536) (all : AllOrNone marks) where
  mark_small : (k : ℕ) → get_or marks k 0 < 65536
  mark_small k = ⊎_elim (λ e. omega arith) (λ e. omega arith) (all k)

  -- of four words
  pub sieves_four : (at a b : ℕ) → Sieves l at marks a b 4 (bit_and (four_at l at) (bit_xor (four_at marks a) (four_at marks b)))
  unfolding Sieves
  sieves_four at a b =
      let w : ℕ → ℕ = λ k. get_or l (at + k) 0 in
      let x : ℕ → ℕ = λ k. get_or marks (a + k) 0 in
      let y : ℕ → ℕ = λ k. get_or marks (b + k) 0 in
      let one : (k : ℕ) → (bit_and (w k) (bit_xor (x k) (y k)) ≡ 0) ↔ (x k ≢ y k → w k ≡ 0) = λ k. sieve_word (w k) (x k) (y k) (small (at + k)) (all (a + k)) (all (b + k)) in
      let xw : (k : ℕ) → bit_xor (x k) (y k) < 65536 = λ k. xor_lt 16 (x k) (y k) (mark_small (a + k)) (mark_small (b + k)) in
      let el : four_at l at ≡ lanes (w 0) (w 1) (w 2) (w 3) = rw (add-zero at) in
      let ea : four_at marks a ≡ lanes (x 0) (x 1) (x 2) (x 3) = rw (add-zero a) in
      let eb : four_at marks b ≡ lanes (y 0) (y 1) (y 2) (y 3) = rw (add-zero b) in
      let ex = lanes_xor (x 0) (x 1) (x 2) (x 3) (y 0) (y 1) (y 2) (y 3) (mark_small _) (mark_small _) (mark_small _) (mark_small _) (mark_small _) (mark_small _) in
      let en = lanes_and (w 0) (w 1) (w 2) (w 3) (bit_xor (x 0) (y 0)) (bit_xor (x 1) (y 1)) (bit_xor (x 2) (y 2)) (bit_xor (x 3) (y 3)) (small _) (small _) (small _) (xw 0) (xw 1) (xw 2) in
      let none = lanes_none (bit_and (w 0) (bit_xor (x 0) (y 0))) (bit_and (w 1) (bit_xor (x 1) (y 1))) (bit_and (w 2) (bit_xor (x 2) (y 2))) (bit_and (w 3) (bit_xor (x 3) (y 3))) in
      rw (el, ea, eb, ex, en) (
        λ z. let p = none.0 z in of_four (λ k. x k ≢ y k → w k ≡ 0) ((one 0).0 p.0) ((one 1).0 p.1) ((one 2).0 p.2) ((one 3).0 p.3),
        λ f. none.1 ((one 0).1 (f 0 (omega arith)), (one 1).1 (f 1 (omega arith)), (one 2).1 (f 2 (omega arith)), (one 3).1 (f 3 (omega arith))),
      )

-- of two stretches that overlap or meet, the second so much further on
pub sieves_both : (l marks : List ℕ) (at a b n r s n' r' m : ℕ) → Sieves l at marks a b n r → Sieves l (at + s) marks (a + s) (b + s) n' r' → s ≤ n → s + n' ≡ m → n ≤ m
    → Sieves l at marks a b m (bit_or r r')
unfolding Sieves
sieves_both l marks at a b n r s n' r' m g h meet ends longer =
    let shift : (x k : ℕ) → x + s + k ≡ x + (s + k) = λ x k. omega arith in (
      λ e k lk.
          let z = (or_none r r').0 e in
          dite (dec_lt k n) (λ i. g.0 z.0 k i)
          (λ o.
          let ik : s + (k - s) ≡ k = omega (arith, o) in
          let ia : a + s + (k - s) ≡ a + k = omega (arith, o) in
          let ib : b + s + (k - s) ≡ b + k = omega (arith, o) in
          let il : at + s + (k - s) ≡ at + k = omega (arith, o) in
          rw (ia, ib, il) at (h.0 z.1 (k - s) (omega (arith, o)))),
      λ f. (or_none r r').1 (
        g.1 (λ k i. f k (omega arith)),
        h.1 (λ k i. rw (shift a k, shift b k, shift at k) (f (s + k) (omega arith))),
      ),
    )

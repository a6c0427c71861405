-- Many words: their bits together, those that marks pick, and the marks of a capacity. Assumes nothing.
use mathlib.Core.Path.{◌≡◌, sym, ◌∙◌}
use mathlib.Core.List.{List}
use mathlib.Core.Bool.{Bool, true}
use mathlib.Core.Logic.{◌↔◌, inl, inr, dite}
use Prim.Native.Nat.{ℕ, ◌+◌, ◌-◌, ◌<◌, ◌≤◌}
use native.Mathlib.Decide.{dec_lt}
use native.Mathlib.Omega.{arith}
use borrow.Author.Tests.{eqb-true, eq-eqb}
use lib.Bits.{bit_and, bit_or, bit_xor}
use lib.Dec.{eqb}
use lib.ListN.{length, get_or, take, drop, replicate, length-replicate, get_or-replicate, get_or-eq_default}
use Rattle.std.specs.List.{list_all}
use Rattle.std.proofs.lemmas.List.{get_or-take, get_or-drop, length-take-le, length-drop}
use Rattle.std.proofs.lemmas.List.Elements.{All-from_get_or}
use Rattle.std.proofs.lemmas.List.Sums.{AllPass-from_list_all, list_all-from_AllPass}
use Rattle.paper.specs.Image.{most_capacity}
use Rattle.four_words.specs.FourWords.{four_at, Gathers, Clear, AllOrNone, Sieves, MarkedFrom, Marks}
use Rattle.four_words.proofs.Lanes.{gathers_four, gathers_both, gathers_none, sieves_four, sieves_both}

-- all words of a stretch are 0
pub clear_told : (l : List ℕ) (at n : ℕ) (r : Bool) → at + n ≤ length l → r ≡ list_all (λ w. eqb w 0) (take (at + n - at) (drop at l)) → (r ≡ true) ↔ Clear l at (at + n)
unfolding Clear
clear_told l at n r inside told =
    let here : (k : ℕ) → k < n → get_or (take (at + n - at) (drop at l)) k 0 ≡ get_or l (at + k) 0 = λ k i. get_or-take (at + n - at) (drop at l) k 0 (omega arith) ∙ get_or-drop at l k 0 in
    let long : length (take (at + n - at) (drop at l)) ≡ n = length-take-le (at + n - at) (drop at l) (omega (arith, length-drop at l)) ∙ omega arith in (
      λ e k a b.
          let same : at + (k - at) ≡ k = omega arith in
          let z = AllPass-from_list_all (λ w. eqb w 0) (take (at + n - at) (drop at l)) (sym told ∙ e) (k - at) 0 (omega (arith, long)) in
          rw same at (sym (here (k - at) (omega arith)) ∙ eqb-true _ 0 z),
      λ f. told ∙ list_all-from_AllPass (λ w. eqb w 0) (take (at + n - at) (drop at l)) (All-from_get_or (λ w. eqb w 0 ≡ true) (take (at + n - at) (drop at l)) 0 (λ k i. eq-eqb _ 0 (here k (omega (arith, long)) ∙ f (at + k) (omega arith) (omega (arith, long))))),
    )

-- the bits of sixteen words, and of more
module _ (l : List ℕ) (small : (k : ℕ) → get_or l k 0 < 65536) (at : ℕ) where
  pub gathers_sixteen : (a b c d : ℕ) → a ≡ four_at l at → b ≡ four_at l (at + 4) → c ≡ four_at l (at + 8) → d ≡ four_at l (at + 12)
      → Gathers l at 16 (bit_or (bit_or (bit_or a b) c) d)
  gathers_sixteen a b c d ea eb ec ed =
      rw (ea, eb, ec, ed)
      (gathers_both l small at 12 _ (at + 12) 4 _ 16
      (gathers_both l small at 8 _ (at + 8) 4 _ 12
      (gathers_both l small at 4 _ (at + 4) 4 _ 8 (gathers_four l at) (gathers_four l (at + 4)) (omega arith) (omega arith) (omega arith) (omega arith))
      (gathers_four l (at + 8)) (omega arith) (omega arith) (omega arith) (omega arith))
      (gathers_four l (at + 12)) (omega arith) (omega arith) (omega arith) (omega arith))

  pub gathers_all : (n r r' : ℕ) → 16 ≤ n → n ≤ most_capacity → Gathers l at 16 r → Gathers l (at + n - 16) 16 r' → Gathers l at n (bit_or r r')
  gathers_all n r r' many few g h = gathers_both l small at 16 r (at + n - 16) 16 r' n g h (omega arith) (omega arith) (omega arith) many

  pub gathered_clear : (n r : ℕ) → Gathers l at n r → (eqb r 0 ≡ true) ↔ Clear l at (at + n)
  unfolding Clear
  gathered_clear n r g = (
    λ e k a b.
        let same : at + (k - at) ≡ k = omega arith in
        rw same at (gathers_none l small at n r g (eqb-true r 0 e) (k - at) (omega arith)),
    λ f.
        let u = g.under 0 (λ k i. omega (arith, f (at + k) (omega arith) (omega arith))) in
        eq-eqb r 0 (omega (arith, g.same, u.0, u.1, u.2, u.3)),
  )

-- four words, and sixteen, by their marks
pub sieved_four : (l marks : List ℕ) → ((k : ℕ) → get_or l k 0 < 65536) → AllOrNone marks → (at a b f g h : ℕ) → f ≡ four_at l at → g ≡ four_at marks a → h ≡ four_at marks b
    → Sieves l at marks a b 4 (bit_and f (bit_xor g h))
sieved_four l marks small all at a b f g h ef eg eh = rw (ef, eg, eh) (sieves_four l marks small all at a b)

pub sieved_sixteen : (l marks : List ℕ) (at a b r1 r2 r3 r4 : ℕ) → Sieves l at marks a b 4 r1 → Sieves l (at + 4) marks (a + 4) (b + 4) 4 r2
    → Sieves l (at + 8) marks (a + 8) (b + 8) 4 r3 → Sieves l (at + 12) marks (a + 12) (b + 12) 4 r4
    → Sieves l at marks a b 16 (bit_or (bit_or r1 r2) (bit_or r3 r4))
sieved_sixteen l marks at a b r1 r2 r3 r4 s1 s2 s3 s4 =
    let far : (x : ℕ) → x + 8 + 4 ≡ x + 12 = λ x. omega arith in
    sieves_both l marks at a b 8 _ 8 8 _ 16 (sieves_both l marks at a b 4 r1 4 4 r2 8 s1 s2 (omega arith) (omega arith) (omega arith))
    (sieves_both l marks (at + 8) (a + 8) (b + 8) 4 r3 4 4 r4 8 s3 (rw (far at, far a, far b) s4) (omega arith) (omega arith) (omega arith))
    (omega arith) (omega arith) (omega arith)

-- no mark yet
no_mark : (k : ℕ) → ◌≡◌ {A = ℕ} (get_or (replicate 96 0) k 0) 0
no_mark k =
    dite (dec_lt k 96) (λ l. get_or-replicate 96 k 0 0 l) (λ o. get_or-eq_default (replicate 96 0) 0 {n = k} (rw (length-replicate {A = ℕ} 96 0) (omega (arith, o))))

-- marked before and after the slots, they are the marks of a capacity
pub marks_made : (given : ℕ) → given ≤ most_capacity → (a b : List ℕ) → MarkedFrom (replicate 96 0) 0 most_capacity a → MarkedFrom a (most_capacity + given) most_capacity b
    → Marks b given
marks_made given few a b ma mb =
    let low : (k : ℕ) → k < most_capacity → get_or b k 0 ≡ 65535 = λ k l. mb.others k (λ h. absurd (omega arith)) ∙ ma.marked k (omega arith) (omega arith) in
    let mid : (k : ℕ) → most_capacity ≤ k → k < most_capacity + given → get_or b k 0 ≡ 0 = λ k h l. mb.others k (λ g. absurd (omega arith)) ∙ ma.others k (λ _. omega arith) ∙ no_mark k in
    let high : (k : ℕ) → most_capacity + given ≤ k → k < most_capacity + given + most_capacity → get_or b k 0 ≡ 65535 = λ k h l. mb.marked k h l in
    let past : (k : ℕ) → most_capacity + given + most_capacity ≤ k → get_or b k 0 ≡ 0 = λ k h. mb.others k (λ _. h) ∙ ma.others k (λ _. omega arith) ∙ no_mark k in
    record {
      before = low;
      slots = mid;
      after = high;
      all = λ k.
          dite (dec_lt k most_capacity) (λ l. inr (low k l))
          (λ o. dite (dec_lt k (most_capacity + given)) (λ l. inl (mid k (omega (arith, o)) l))
          (λ o2. dite (dec_lt k (most_capacity + given + most_capacity)) (λ l. inr (high k (omega (arith, o2)) l)) (λ o3. inl (past k (omega (arith, o3))))));
    }

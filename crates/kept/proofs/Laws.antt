-- A word of letters is told by its number, and what a word is by the rows that it can be. Assumes nothing.
use mathlib.Core.Bool.{Bool, true, false, ◌&&◌, ◌||◌, and-eq-true_iff, true≢false, false≢true}
use mathlib.Core.List.{List, [], ◌∷◌, ◌++◌}
use mathlib.Core.Path.{◌≡◌, refl, sym, ap, ap₂, ◌∙◌}
use Prim.Native.Nat.{ℕ, zero, suc, ◌+◌, ◌-◌, ◌*◌, ◌^◌, ◌<◌, ◌≤◌}
use native.Mathlib.Omega.{arith}
use native.Mathlib.Nat.{pow-suc, pow-le-pow_right}
use borrow.Author.Tests.{eq-eqb, ne_eqb, eqb-true, leb-true, lt-leb}
use lib.Dec.{eqb, leb}
use lib.ListN.{length, get_or, take, drop, length-drop}
use lib.Seq.{drop-cons, drop-length}
use mir.Val.{has_key}
use types.Run.{OneOf, hit}
use Rattle.grammar.specs.Tokens.{letter, bytes, same}
use Rattle.grammar.specs.Kept.{Row, kept_words, kept_in, kept_as}
use Rattle.grammar.specs.declared.Kept.{Kept}
use Rattle.kept.specs.Keys.{most_letters, counted, base, key, kept_under, registers, kept_by, register_letter, first_register, last_register, names_register}

-- a letter counts its place in the alphabet
pub letter_counts : (b : ℕ) → letter b ≡ true → (counted b ≡ b - 96) × (97 ≤ b) × (b ≤ 122)
unfolding counted
letter_counts b e =
    let h = (and-eq-true_iff (leb 97 b) (leb b 122)).0 e in
    (rw (e, counted), leb-true 97 b h.0, leb-true b 122 h.1)

-- any other byte counts 27
pub other_counts : (b : ℕ) → letter b ≡ false → counted b ≡ 27
unfolding counted
other_counts b e = rw (e, counted)

-- a byte counts from 1 to 27
counts_below_base : (b : ℕ) → (0 < counted b) × (counted b < base)
counts_below_base b = go (letter b) refl
  where
    go : (t : Bool) → letter b ≡ t → (0 < counted b) × (counted b < base)
    go true e = omega (arith, letter_counts b e)
    go false e = omega (arith, other_counts b e)

-- a letter is told by what it counts
letter_told : (a b : ℕ) → letter a ≡ true → counted a ≡ counted b → a ≡ b
letter_told a b l e = go (letter b) refl
  where
    go : (t : Bool) → letter b ≡ t → a ≡ b
    go true m = omega (arith, letter_counts a l, letter_counts b m)
    go false m = omega (arith, letter_counts a l, other_counts b m)

-- whether a word is of letters
unfoldable pub all_letters : List ℕ → Bool
all_letters [] = true
all_letters (b ∷ w) = letter b && all_letters w

-- a test that holds where another does, and the other where it does, is the other
both_ways : (s t : Bool) → (s ≡ true → t ≡ true) → (t ≡ true → s ≡ true) → s ≡ t
both_ways true t f g = sym (f refl)
both_ways false true f g = g refl
both_ways false false f g = refl

-- two sums to the base are equal where both parts are
parts_told : (m n a b : ℕ) → letter a ≡ true → (eqb a b && eqb m n) ≡ eqb (m * base + counted a) (n * base + counted b)
parts_told m n a b l = both_ways (eqb a b && eqb m n) (eqb (m * base + counted a) (n * base + counted b)) whole parts
  where
    whole : (eqb a b && eqb m n) ≡ true → eqb (m * base + counted a) (n * base + counted b) ≡ true
    whole e =
        let h = (and-eq-true_iff (eqb a b) (eqb m n)).0 e in
        eq-eqb (m * base + counted a) (n * base + counted b) (rw (eqb-true a b h.0, eqb-true m n h.1))

    parts : eqb (m * base + counted a) (n * base + counted b) ≡ true → (eqb a b && eqb m n) ≡ true
    parts e =
        let sums = eqb-true (m * base + counted a) (n * base + counted b) e in
        let lows : counted a ≡ counted b = omega (arith, counts_below_base a, counts_below_base b) in
        let highs : m ≡ n = omega arith in
        (and-eq-true_iff (eqb a b) (eqb m n)).1 (eq-eqb a b (letter_told a b l lows), eq-eqb m n highs)

-- a word of letters is told by its number
same_key : (s w : List ℕ) → all_letters s ≡ true → same s w ≡ eqb (key s) (key w)
unfolding all_letters same key
same_key [] [] l = refl
same_key [] (b ∷ w) l = sym (ne_eqb 0 (key w * base + counted b) (omega (arith, counts_below_base b)))
same_key (a ∷ s) [] l = sym (ne_eqb (key s * base + counted a) 0 (omega (arith, counts_below_base a)))
same_key (a ∷ s) (b ∷ w) l =
    let h = (and-eq-true_iff (letter a) (all_letters s)).0 l in
    rw (same_key s w h.1) (parts_told (key s) (key w) a b h.0)

-- a test of the words of rows
unfoldable pub each_word : (List ℕ → Bool) → List Row → Bool
each_word test [] = true
each_word test (r ∷ rs) = test r.spelt && each_word test rs

-- among rows of words of letters, a word's number finds its row
found_by_key : (rs : List Row) (w : List ℕ) → each_word all_letters rs ≡ true → kept_in rs w ≡ kept_under rs (key w)
unfolding each_word kept_in kept_under
found_by_key [] w l = refl
found_by_key (r ∷ rs) w l =
    let h = (and-eq-true_iff (all_letters r.spelt) _).0 l in
    ap₂ {C = Kept} (λ (t : Bool) (k : Kept). elim t [ true ↦ r.kept | false ↦ k ]) (same_key r.spelt w h.0) (found_by_key rs w h.1)

-- words that are the same are equal
same_equal : (s w : List ℕ) → same s w ≡ true → s ≡ w
unfolding same
same_equal [] [] e = refl
same_equal [] (b ∷ w) e = absurd (false≢true e)
same_equal (a ∷ s) [] e = absurd (false≢true e)
same_equal (a ∷ s) (b ∷ w) e =
    let h = (and-eq-true_iff (eqb a b) _).0 e in
    rw (eqb-true a b h.0, same_equal s w h.1)

-- rows whose words pass a test are passed over by a word that fails it
passed_over : (test : List ℕ → Bool) (rs ss : List Row) (w : List ℕ) → each_word test rs ≡ true → test w ≡ false → kept_in (rs ++ ss) w ≡ kept_in ss w
unfolding each_word kept_in
passed_over test [] ss w l f = refl
passed_over test (r ∷ rs) ss w l f = go (same r.spelt w) refl (passed_over test rs ss w h.1 f)
  where
    h : (test r.spelt ≡ true) × (each_word test rs ≡ true)
    h = (and-eq-true_iff (test r.spelt) _).0 l

    go : (t : Bool) → same r.spelt w ≡ t → kept_in (rs ++ ss) w ≡ kept_in ss w → kept_in ((r ∷ rs) ++ ss) w ≡ kept_in ss w
    go true e more = absurd (true≢false (sym h.0 ∙ ap test (same_equal _ _ e) ∙ f))
    go false e more = rw (e, kept_in) more

-- whether a word is no longer than an order name
unfoldable pub short : List ℕ → Bool
short w = leb (length w) most_letters

-- a long word is free
pub long_free : (w : List ℕ) → most_letters < length w → kept_as w ≡ Kept.Free
unfolding kept_as kept_words kept_in each_word short bytes
long_free w h = passed_over short kept_words [] w refl (lt-leb _ _ h)

-- a word that names no register is told by its number
pub told_by_key : (w : List ℕ) → names_register w ≡ false → kept_as w ≡ kept_by (key w)
unfolding kept_as kept_by kept_words each_word all_letters names_register bytes
told_by_key w f = passed_over names_register (take registers kept_words) (drop registers kept_words) w refl f ∙ found_by_key (drop registers kept_words) w refl

-- what a word that names a register is made of
pub register_parts : (w : List ℕ) → names_register w ≡ true → (length w ≡ 2) × (get_or w 0 0 ≡ register_letter) × (first_register ≤ get_or w 1 0) × (get_or w 1 0 ≤ last_register)
unfolding names_register
register_parts w e =
    let h = (and-eq-true_iff (eqb (length w) 2) _).0 e in
    let g = (and-eq-true_iff (eqb (get_or w 0 0) register_letter) _).0 h.1 in
    let d = (and-eq-true_iff (leb first_register (get_or w 1 0)) _).0 g.1 in
    (eqb-true _ _ h.0, eqb-true _ _ g.0, leb-true _ _ d.0, leb-true _ _ d.1)

-- the letter and the digit of a number are that register
spelled : (k : ℕ) → k < registers → kept_as (register_letter ∷ (first_register + k) ∷ []) ≡ Kept.Register k
unfolding kept_as kept_words kept_in same bytes
spelled zero h = refl
spelled (suc zero) h = refl
spelled (suc (suc zero)) h = refl
spelled (suc (suc (suc zero))) h = refl
spelled (suc (suc (suc (suc zero)))) h = refl
spelled (suc (suc (suc (suc (suc zero))))) h = refl
spelled (suc (suc (suc (suc (suc (suc zero)))))) h = refl
spelled (suc (suc (suc (suc (suc (suc (suc zero))))))) h = refl
spelled (suc (suc (suc (suc (suc (suc (suc (suc k)))))))) h = absurd (omega arith)

-- a word that names a register is that register
pub register_kept : (w : List ℕ) → names_register w ≡ true → kept_as w ≡ Kept.Register (get_or w 1 0 - first_register)
register_kept [] e = absurd (omega (arith, register_parts [] e))
register_kept (a ∷ []) e = absurd (omega (arith, register_parts (a ∷ []) e))
register_kept (a ∷ d ∷ b ∷ w) e = absurd (omega (arith, register_parts (a ∷ d ∷ b ∷ w) e))
register_kept (a ∷ d ∷ []) e =
    let p = register_parts (a ∷ d ∷ []) e in
    let q : d ≡ first_register + (d - first_register) = omega (arith, p) in
    ap (λ (w : List ℕ). kept_as w) (rw (p.1, ← q)) ∙ spelled (d - first_register) (omega (arith, p))

-- that a number is a key of no arm of a match, the last arm first
abbrev pub no_arm : List (List ℕ) → ℕ → Type 0
no_arm [] n = Unit {0}
no_arm (ks ∷ arms) n = no_arm arms n × (OneOf ks n → ⊥)

-- whether a number is a key of an arm
unfoldable pub an_arm : List (List ℕ) → ℕ → Bool
an_arm [] n = false
an_arm (ks ∷ arms) n = has_key ks n || an_arm arms n

-- a number is not a key of an arm and of none
not_both : (arms : List (List ℕ)) (n : ℕ) → an_arm arms n ≡ true → no_arm arms n → ⊥
unfolding an_arm
not_both [] n e h = false≢true e
not_both (ks ∷ arms) n e h = go (has_key ks n) refl (λ f. not_both arms n f h.0)
  where
    go : (t : Bool) → has_key ks n ≡ t → (an_arm arms n ≡ true → ⊥) → ⊥
    go true q more = h.1 (hit ks n (rw q tt))
    go false q more = more (rw q at e)

-- where the arms have the number of each row, a number of no arm is free
pub no_arm_free : (arms : List (List ℕ)) (rs : List Row) (n : ℕ) → each_word (λ w. an_arm arms (key w)) rs ≡ true → no_arm arms n → kept_under rs n ≡ Kept.Free
unfolding each_word kept_under
no_arm_free arms [] n l h = refl
no_arm_free arms (r ∷ rs) n l h = go (eqb (key r.spelt) n) refl (no_arm_free arms rs n g.1 h)
  where
    g : (an_arm arms (key r.spelt) ≡ true) × (each_word (λ w. an_arm arms (key w)) rs ≡ true)
    g = (and-eq-true_iff (an_arm arms (key r.spelt)) _).0 l

    go : (t : Bool) → eqb (key r.spelt) n ≡ t → kept_under rs n ≡ Kept.Free → kept_under (r ∷ rs) n ≡ Kept.Free
    go true e more = absurd (not_both arms n (rw (eqb-true _ n e) at g.0) h)
    go false e more = rw (e, kept_under) more

-- the number of a word's end from that of the end one byte shorter
longer : (w : List ℕ) (j k : ℕ) → k ≡ suc j → j < length w → key (drop j w) ≡ key (drop k w) * base + counted (get_or w j 0)
unfolding key
longer w j k e h = rw (e, drop-cons w j 0)

-- behind a word nothing is left to count
pub nothing_counts : (w : List ℕ) → 0 ≡ key (drop (length w) w)
unfolding key
nothing_counts w = sym (ap key (drop-length w))

-- a word's number is below the power of the base that its length gives
key_below : (w : List ℕ) → key w < base ^ length w
unfolding key
key_below [] = omega arith
key_below (b ∷ w) = rw pow-suc (omega (arith, key_below w, counts_below_base b))

-- the number of the end of a word that is not long fits
end_fits : (w : List ℕ) (k : ℕ) → length w ≤ most_letters → key (drop k w) < base ^ most_letters
end_fits w k h =
    let m : length (drop k w) ≤ most_letters = omega (arith, length-drop k w) in
    omega (arith, key_below (drop k w), pow-le-pow_right {n = base} (omega arith) m)

module _ (w : List ℕ) (k : ℕ) (some : 0 < k) (fits : k ≤ length w) where
  -- one byte more in front is one step of the sum
  pub key_longer : key (drop k w) * base + counted (get_or w (k - 1) 0) ≡ key (drop (k - 1) w)
  key_longer = sym (longer w (k - 1) k (omega arith) (omega arith))

  -- and the step fits where the word is not long
  pub longer_fits : length w ≤ most_letters → key (drop k w) * base + counted (get_or w (k - 1) 0) < base ^ most_letters
  longer_fits h = rw key_longer (end_fits w (k - 1) h)

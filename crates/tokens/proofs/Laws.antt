-- How the tokens of a line follow from its bytes, one at a time and place by place. Assumes nothing.
use mathlib.Core.Path.{◌≡◌, refl, sym, ap, ◌∙◌}
use mathlib.Core.Logic.{◌⊎◌, inl, inr, ⊎_elim}
use mathlib.Core.Bool.{Bool, true, false, ◌||◌, true≢false}
use mathlib.Core.List.{List, [], ◌∷◌, ◌++◌, append-nil, append_assoc}
use Prim.Native.Nat.{ℕ, zero, suc, ◌+◌, ◌-◌, ◌<◌, ◌≤◌}
use native.Mathlib.Nat.{add-zero, eq-or-lt_of_le}
use native.Mathlib.Numerals.{add-one}
use native.Mathlib.Omega.{arith}
use borrow.Author.Tests.{eqb-true, ne_eqb}
use lib.Dec.{eqb}
use Rattle.std.proofs.str.Laws.{order}
use lib.ListN.{length, get_or, drop, length-drop, drop_of_length-le}
use lib.Seq.{drop-cons, take-suc, get_or-drop, get_or-take, length-take-le}
use Rattle.grammar.specs.Tokens.{Token, Open, comment, letter, digit, blank, is_mark, goes_on, longer, ended, alone, begun, tokens_on, tokens}
use Rattle.grammar.specs.Tokens.Open.{none, in_number, in_word}
use Rattle.tokens.specs.declared.Token.{Token as Next}
use Rattle.tokens.specs.Shown.{part, shown, Digits, Inside, EndsAt}

-- blanks that are passed over: the tokens stay, and a byte that is no blank follows, or the end
pub record Skips (l : List ℕ) (at r : ℕ) : Type 0 where
  pub stay : tokens (drop r l) ≡ tokens (drop at l)
  pub stops : r < length l → blank (get_or l r 0) ≡ false

-- a number or a word that goes on from a place to another, where it ends
pub record Lasts (still : List ℕ → Open) (l : List ℕ) (at r : ℕ) : Type 0 where
  pub from : at ≤ r
  pub to : r ≤ length l
  pub on : (w : List ℕ) → tokens_on (still w) (drop at l) ≡ ended (still (w ++ part l at r)) ++ tokens (drop r l)
  pub each : (i : ℕ) → i < r - at → goes_on (still []) (get_or l (at + i) 0) ≡ true

-- under one more than a number: that number, or under it
last_or_under : (b n : ℕ) → b < n + 1 → (b ≡ n) ⊎ (b < n)
last_or_under b n h = eq-or-lt_of_le (omega arith)

-- bytes at which a test differs are not the same
other : (f : ℕ → Bool) (a b : ℕ) → f a ≡ false → f b ≡ true → eqb b a ≡ false
other f a b e h = ne_eqb b a (λ q. true≢false (sym h ∙ ap f q ∙ e))

-- nothing goes on with the byte of a comment
comment_stops : (o : Open) → goes_on o comment ≡ false
comment_stops none = refl
comment_stops (in_number ds) = refl
comment_stops (in_word w) = refl

-- a number or a word goes on with a byte
goes : (o : Open) (b : ℕ) (bs : List ℕ) → goes_on o b ≡ true → tokens_on o (b ∷ bs) ≡ tokens_on (longer o b) bs
unfolding tokens_on
goes o b bs h = rw (other (goes_on o) comment b (comment_stops o) h, h, tokens_on)

-- a row that stops is the same before its case and after it
before_case : (c g : Bool) (x y z : List Token) → g ≡ false
    → elim c [ true ↦ x | false ↦ elim g [ true ↦ z | false ↦ x ++ y ] ] ≡ x ++ elim c [ true ↦ [] | false ↦ y ]
before_case true g x y z e = sym (append-nil x)
before_case false g x y z e = rw e

-- it stops at a byte, and at the end
stops : (o : Open) (b : ℕ) (bs : List ℕ) → goes_on o b ≡ false → tokens_on o (b ∷ bs) ≡ ended o ++ tokens (b ∷ bs)
unfolding tokens_on tokens
stops o b bs h =
    before_case (eqb b comment) (goes_on o b) (ended o) (alone b ++ tokens_on (begun b) bs) (tokens_on (longer o b) bs) h

no_more : (o : Open) → tokens_on o [] ≡ ended o ++ tokens []
unfolding tokens_on tokens
no_more o = sym (append-nil (ended o))

-- no token is left at the end, and at a comment
none_left : tokens [] ≡ []
unfolding tokens_on tokens
none_left = refl

commented : (b : ℕ) (bs : List ℕ) → b ≡ comment → tokens (b ∷ bs) ≡ []
unfolding tokens_on tokens
commented b bs e = rw e

-- the tokens from another byte on, by what it begins and what it is by itself
from_byte : (b : ℕ) (bs : List ℕ) (ts : List Token) (o : Open) → eqb b comment ≡ false → alone b ≡ ts → begun b ≡ o
    → tokens (b ∷ bs) ≡ ts ++ tokens_on o bs
unfolding tokens_on tokens
from_byte b bs ts o c a g = rw (c, tokens_on) (rw (a, g))

-- a letter begins a word, and a digit a number
from_letter : (b : ℕ) (bs : List ℕ) → letter b ≡ true → tokens (b ∷ bs) ≡ tokens_on (in_word (b ∷ [])) bs
from_letter b bs h = from_byte b bs [] (in_word (b ∷ [])) (other letter comment b refl h) (rw (h, alone, ◌||◌)) (rw (h, begun))

from_digit : (b : ℕ) (bs : List ℕ) → letter b ≡ false → digit b ≡ true → tokens (b ∷ bs) ≡ tokens_on (in_number (b ∷ [])) bs
from_digit b bs l h = from_byte b bs [] (in_number (b ∷ [])) (other digit comment b refl h) (rw (l, h, alone, ◌||◌)) (rw (l, h, begun))

-- any other byte but a blank is a token by itself
module _ (b : ℕ) (bs : List ℕ) (l : letter b ≡ false) (d : digit b ≡ false) (s : blank b ≡ false) where
  from_mark : is_mark b ≡ true → tokens (b ∷ bs) ≡ Token.mark b ∷ tokens bs
  unfolding tokens
  from_mark h = from_byte b bs (Token.mark b ∷ []) none (other is_mark comment b refl h) (rw (l, d, s, h, alone, ◌||◌)) (rw (l, d, begun))

  from_stray : is_mark b ≡ false → eqb b comment ≡ false → tokens (b ∷ bs) ≡ Token.stray ∷ tokens bs
  unfolding tokens
  from_stray h c = from_byte b bs (Token.stray ∷ []) none c (rw (l, d, s, h, alone, ◌||◌)) (rw (l, d, begun))

-- one of two tests
either : (x y : Bool) → x || y ≡ true → (x ≡ true) ⊎ (y ≡ true)
either true y h = inl refl
either false y h = inr h

-- a blank is no token
from_blank : (b : ℕ) (bs : List ℕ) → blank b ≡ true → tokens (b ∷ bs) ≡ tokens bs
unfolding tokens_on tokens
from_blank b bs h =
    ⊎_elim (λ e. rw (eqb-true b 32 e)) (λ o. ⊎_elim (λ e. rw (eqb-true b 9 e)) (λ e. rw (eqb-true b 13 e)) (either (eqb b 9) (eqb b 13) o))
    (either (eqb b 32) (eqb b 9 || eqb b 13) h)

-- the bytes from a place on begin with the byte there
at_byte : (l : List ℕ) (k : ℕ) → k < length l → drop k l ≡ get_or l k 0 ∷ drop (k + 1) l
at_byte l k h = drop-cons l k 0 h ∙ rw add-one

-- a part of no byte, with one byte more at its end, and by its first byte
part_none : (l : List ℕ) (at : ℕ) → part l at at ≡ []
part_none l at = let e : at - at ≡ 0 = omega arith in rw e

part_more : (l : List ℕ) (at k : ℕ) → at ≤ k → k < length l → part l at (k + 1) ≡ part l at k ++ (get_or l k 0 ∷ [])
part_more l at k a h =
    let e : k + 1 - at ≡ suc (k - at) = omega arith in
    let f : at + (k - at) ≡ k = omega arith in
    let long : k - at < length (drop at l) = simp length-drop (omega arith) in
    rw (e, take-suc (drop at l) (k - at) 0 long, get_or-drop, f)

part_first : (l : List ℕ) (at r : ℕ) → at < r → at < length l → part l at r ≡ get_or l at 0 ∷ part l (at + 1) r
part_first l at r a h =
    let e : r - at ≡ suc (r - (at + 1)) = omega arith in
    rw (e, at_byte l at h)

-- blanks are passed over one by one
pub blank_passed : (l : List ℕ) (at k : ℕ) → tokens (drop k l) ≡ tokens (drop at l) → k < length l → blank (get_or l k 0) ≡ true
    → tokens (drop (k + 1) l) ≡ tokens (drop at l)
blank_passed l at k e h b = sym (from_blank (get_or l k 0) (drop (k + 1) l) b) ∙ ap tokens (sym (at_byte l k h)) ∙ e

-- a test that says as much
pub taken_as : (P Q : ℕ → Bool → Type 0) → ((b : ℕ) (t : Bool) → P b t → Q b t) → (l : List ℕ) (at r : ℕ) → EndsAt P l at r → EndsAt Q l at r
taken_as P Q f l at r e =
    record { to = e.to; each = λ i a h. f _ _ (e.each i a h); stops = λ h. ((e.stops h).0, f _ _ (e.stops h).1) }

-- it lies from the first place on, which lies in the line
pub ends_from : (P : ℕ → Bool → Type 0) (l : List ℕ) (at r : ℕ) → EndsAt P l at r → at ≤ length l → at ≤ r
ends_from P l at r e h = ⊎_elim (λ g. (e.stops g).0) (λ g. omega arith) (order r (length l))

-- blanks up to the first other byte
module _ (l : List ℕ) (at r : ℕ) (e : EndsAt (λ b t. t ≡ blank b) l at r) where
  passed : (n : ℕ) → at + n ≤ r → tokens (drop (at + n) l) ≡ tokens (drop at l)
  passed zero h = rw add-zero
  passed (suc n) h =
      let f : at + suc n ≡ at + n + 1 = omega arith in
      rw f (blank_passed l at (at + n) (passed n (omega arith)) (omega (arith, e.to)) (sym (e.each (at + n) (omega arith) (omega arith))))

  -- a place past the end is where nothing is left
  all_passed : (at < length l) ⊎ (length l ≤ at) → tokens (drop r l) ≡ tokens (drop at l)
  all_passed (inl h) =
      let from = ends_from _ l at r e (omega arith) in
      let f : at + (r - at) ≡ r = omega arith in
      rw f at (passed (r - at) (omega arith))
  all_passed (inr h) =
      let end : length l ≤ r = ⊎_elim (λ g. absurd (omega (arith, (e.stops g).0))) (λ g. g) (order r (length l)) in
      ap tokens (drop_of_length-le l end ∙ sym (drop_of_length-le l h))

  pub skips : Skips l at r
  skips = record { stay = all_passed (order at (length l)); stops = λ h. sym (e.stops h).1 }

-- a number or a word that went on from a place to another, and may still go on
pub record Running (still : List ℕ → Open) (l : List ℕ) (at k : ℕ) : Type 0 where
  pub from : at ≤ k
  pub to : k ≤ length l
  pub on : (w : List ℕ) → tokens_on (still w) (drop at l) ≡ tokens_on (still (w ++ part l at k)) (drop k l)
  pub each : (i : ℕ) → i < k - at → goes_on (still []) (get_or l (at + i) 0) ≡ true

-- what numbers and words share: the bytes so far say nothing of whether one goes on, and a byte more is added to them
pub record OpenBy (still : List ℕ → Open) : Type 0 where
  pub alike : (w : List ℕ) (b : ℕ) → goes_on (still w) b ≡ goes_on (still []) b
  pub more : (w : List ℕ) (b : ℕ) → longer (still w) b ≡ still (w ++ (b ∷ []))

pub numbers : OpenBy in_number
numbers = record { alike = λ w b. refl; more = λ w b. refl }

pub words : OpenBy in_word
words = record { alike = λ w b. refl; more = λ w b. refl }

-- a run begins, goes on with a byte, and is over at another byte or at the end
module _ (still : List ℕ → Open) (l : List ℕ) (at : ℕ) where
  pub run_begins : at ≤ length l → Running still l at at
  run_begins h =
      record {
        from = omega arith;
        to = h;
        on = λ w. rw (part_none, append-nil);
        each = λ i o. absurd (omega arith);
      }

  module _ (s : OpenBy still) (k : ℕ) (r : Running still l at k) where
    pub run_goes : k < length l → goes_on (still []) (get_or l k 0) ≡ true → Running still l at (k + 1)
    run_goes h g =
        record {
          from = omega arith;
          to = omega arith;
          on = λ w.
              r.on w ∙ ap (tokens_on (still (w ++ part l at k))) (at_byte l k h) ∙
              goes (still (w ++ part l at k)) (get_or l k 0) (drop (k + 1) l) (s.alike _ _ ∙ g) ∙
              rw (s.more, append_assoc, ← part_more l at k r.from h);
          each = λ i o.
              ⊎_elim (λ e. let f : at + i ≡ k = omega arith in rw f g) (λ below. r.each i below)
              (last_or_under i (k - at) (omega arith));
        }

    run_over : ((w : List ℕ) → tokens_on (still w) (drop k l) ≡ ended (still w) ++ tokens (drop k l)) → Lasts still l at k
    run_over e = record { from = r.from; to = r.to; on = λ w. r.on w ∙ e (w ++ part l at k); each = r.each }

    pub run_stops : k < length l → goes_on (still []) (get_or l k 0) ≡ false → Lasts still l at k
    run_stops h g = run_over (λ w. rw (at_byte l k h) (stops (still w) (get_or l k 0) (drop (k + 1) l) (s.alike w (get_or l k 0) ∙ g)))

    pub run_ends : length l ≤ k → Lasts still l at k
    run_ends h = run_over (λ w. rw (drop_of_length-le l h) (no_more (still w)))

-- a run up to the first byte that it does not go on with
module _ (still : List ℕ → Open) (s : OpenBy still) (l : List ℕ) (at r : ℕ) (h : at ≤ length l) (e : EndsAt (λ b t. t ≡ goes_on (still []) b) l at r) where
  runs : (n : ℕ) → at + n ≤ r → Running still l at (at + n)
  runs zero g = rw add-zero (run_begins still l at h)
  runs (suc n) g =
      let f : at + suc n ≡ at + n + 1 = omega arith in
      rw f (run_goes still l at s (at + n) (runs n (omega arith)) (omega (arith, e.to)) (sym (e.each (at + n) (omega arith) (omega arith))))

  pub lasts : Lasts still l at r
  lasts =
      let from = ends_from _ l at r e h in
      let f : at + (r - at) ≡ r = omega arith in
      let run = rw f at (runs (r - at) (omega arith)) in
      ⊎_elim (λ g. run_stops still l at s r run g (sym (e.stops g).1)) (λ g. run_ends still l at s r run g) (order r (length l))

-- each byte of a number is a digit
module _ (l : List ℕ) (from to : ℕ) (d : digit (get_or l from 0) ≡ true) (r : Lasts in_number l (from + 1) to) where
  digit_at : (i : ℕ) → i < to - from → digit (get_or l (from + i) 0) ≡ true
  digit_at zero h = let e : from + 0 ≡ from = omega arith in rw e d
  digit_at (suc j) h = let e : from + suc j ≡ from + 1 + j = omega arith in rw e (r.each j (omega arith))

  part_length : length (part l from to) ≡ to - from
  part_length = length-take-le (to - from) (drop from l) (simp length-drop (omega arith))

  digits : Digits (part l from to)
  digits i h =
      let b : i < to - from = omega (arith, part_length) in
      rw (get_or-take (to - from) (drop from l) i 0 b, get_or-drop) (digit_at i b)

-- what stands next, after the blanks
abbrev Stands : List ℕ → ℕ → Next → Type 0
Stands l at t = (tokens (drop at l) ≡ shown l t) × Inside l t

module _ (l : List ℕ) (at from : ℕ) (s : Skips l at from) where
  pub nothing_next : length l ≤ from → Stands l at Next.End
  nothing_next h = (sym s.stay ∙ ap tokens (drop_of_length-le l h) ∙ none_left, tt)

  -- a byte that stands there
  module _ (b : ℕ) (h : from < length l) (e : get_or l from 0 ≡ b) where
    byte_next : tokens (drop at l) ≡ tokens (b ∷ drop (from + 1) l)
    byte_next = sym s.stay ∙ ap tokens (at_byte l from h ∙ rw e)

    no_blank : blank b ≡ false
    no_blank = rw e at (s.stops h)

    run_next : (still : List ℕ → Open) (to : ℕ) (r : Lasts still l (from + 1) to)
        → tokens (b ∷ drop (from + 1) l) ≡ tokens_on (still (b ∷ [])) (drop (from + 1) l)
        → tokens (drop at l) ≡ ended (still (part l from to)) ++ tokens (drop to l)
    run_next still to r g = byte_next ∙ g ∙ r.on (b ∷ []) ∙ rw (part_first l from to (omega (arith, r.from)) h, e)

    pub word_next : (to : ℕ) → letter b ≡ true → Lasts in_word l (from + 1) to → Stands l at (Next.Word from to)
    word_next to c r = (run_next in_word to r (from_letter _ _ c), (omega (arith, r.from), r.to))

    module _ (c : letter b ≡ false) where
      pub number_next : (to : ℕ) → digit b ≡ true → Lasts in_number l (from + 1) to → Stands l at (Next.Number from to)
      number_next to d r =
          (run_next in_number to r (from_digit _ _ c d), (omega (arith, r.from), (r.to, digits l from to (rw e d) r)))

      module _ (d : digit b ≡ false) where
        pub mark_next : is_mark b ≡ true → Stands l at (Next.Mark b (from + 1))
        mark_next m = (byte_next ∙ from_mark _ _ c d no_blank m, tt)

        pub stray_next : is_mark b ≡ false → (b ≡ comment → ⊥) → Stands l at (Next.Stray (from + 1))
        stray_next m n = (byte_next ∙ from_stray _ _ c d no_blank m (ne_eqb _ _ n), tt)

    pub comment_next : b ≡ comment → Stands l at Next.End
    comment_next q = (byte_next ∙ commented _ _ q, tt)

-- The lines of a text one by one: the first line of what is left, and the lines after it. Assumes nothing.
use mathlib.Core.Path.{◌≡◌, refl, sym, ap, ◌∙◌}
use mathlib.Core.Bool.{Bool, true, false}
use mathlib.Core.List.{List, [], ◌∷◌, ◌++◌}
use Prim.Native.Nat.{ℕ, zero, suc, ◌+◌, ◌-◌, ◌<◌, ◌≤◌}
use native.Mathlib.Omega.{arith}
use borrow.Author.Tests.{ltb-true, ltb-false}
use lib.Dec.{eqb, ltb}
use lib.ListN.{length, take, drop, length-drop, drop_of_length-le, take-append-drop}
use lib.Seq.{length-take-le, drop-drop, drop-append-le, take-append-le}
use Rattle.grammar.specs.Tokens.{lines, first_line, line_end, joined}

-- a text that has a byte: its first line, and the lines after the byte that ends it
first_and_others : (b : ℕ) (bs : List ℕ) → lines (b ∷ bs) ≡ first_line (b ∷ bs) ∷ lines (drop (suc (length (first_line (b ∷ bs)))) (b ∷ bs))
unfolding lines first_line
first_and_others b [] = go (eqb b line_end) refl
  where
    go : (t : Bool) → eqb b line_end ≡ t → lines (b ∷ []) ≡ first_line (b ∷ []) ∷ lines (drop (suc (length (first_line (b ∷ [])))) (b ∷ []))
    go true e = rw (e, lines, first_line)
    go false e = rw (e, lines, first_line)
first_and_others b (c ∷ cs) = go (eqb b line_end) refl (first_and_others c cs)
  where
    go : (t : Bool) → eqb b line_end ≡ t → lines (c ∷ cs) ≡ first_line (c ∷ cs) ∷ lines (drop (suc (length (first_line (c ∷ cs)))) (c ∷ cs))
        → lines (b ∷ (c ∷ cs)) ≡ first_line (b ∷ (c ∷ cs)) ∷ lines (drop (suc (length (first_line (b ∷ (c ∷ cs))))) (b ∷ (c ∷ cs)))
    go true e after = rw (e, lines, first_line)
    go false e after = rw (e, lines, first_line) (ap (joined b) after)

-- a line is no longer than its text, and is its beginning
first_is_short : (l : List ℕ) → length (first_line l) ≤ length l
unfolding first_line
first_is_short [] = omega arith
first_is_short (b ∷ bs) = go (eqb b line_end) refl (first_is_short bs)
  where
    go : (t : Bool) → eqb b line_end ≡ t → length (first_line bs) ≤ length bs → length (first_line (b ∷ bs)) ≤ length (b ∷ bs)
    go true e after = rw (e, first_line) (omega arith)
    go false e after = rw (e, first_line) (omega arith)

first_is_front : (l : List ℕ) → take (length (first_line l)) l ≡ first_line l
unfolding first_line
first_is_front [] = refl
first_is_front (b ∷ bs) = go (eqb b line_end) refl (first_is_front bs)
  where
    go : (t : Bool) → eqb b line_end ≡ t → take (length (first_line bs)) bs ≡ first_line bs → take (length (first_line (b ∷ bs))) (b ∷ bs) ≡ first_line (b ∷ bs)
    go true e after = rw (e, first_line)
    go false e after = rw (e, first_line) (ap (λ (l : List ℕ). b ∷ l) after)

has_first : (l : List ℕ) → 0 < length l → lines l ≡ first_line l ∷ lines (drop (suc (length (first_line l))) l)
has_first [] h = absurd (omega arith)
has_first (b ∷ bs) h = first_and_others b bs

-- from a place of a text on
pub line_splits : (text : List ℕ) (at : ℕ) → at < length text →
    lines (drop at text) ≡ first_line (drop at text) ∷ lines (drop (at + length (first_line (drop at text)) + 1) text)
line_splits text at h =
    let n : ℕ = length (first_line (drop at text)) in
    let e : at + suc n ≡ at + n + 1 = omega arith in
    has_first (drop at text) (omega (arith, length-drop at text)) ∙ rw (drop-drop (suc n) at text, e)

pub line_inside : (text : List ℕ) (at : ℕ) → at ≤ length text → at + length (first_line (drop at text)) ≤ length text
line_inside text at h = omega (arith, first_is_short (drop at text), length-drop at text)

pub line_within : (text : List ℕ) (at count : ℕ) → at < length text → count ≡ length (first_line (drop at text)) → at + count ≤ length text
line_within text at count h e = rw e (line_inside text at (omega arith))

-- the part of a text from a place to the end of its line is the line
pub line_is_part : (text : List ℕ) (at end : ℕ) → end ≡ at + length (first_line (drop at text)) → take (end - at) (drop at text) ≡ first_line (drop at text)
line_is_part text at end e =
    let n : end - at ≡ length (first_line (drop at text)) = omega arith in
    rw n (first_is_front (drop at text))

pub no_lines : (text : List ℕ) (at : ℕ) → length text ≤ at → lines (drop at text) ≡ []
unfolding lines
no_lines text at h = rw (drop_of_length-le text h)

-- what holds past the end of a text, and at a line where it holds at the next, holds at every place
pub by_lines : (text : List ℕ) (P : ℕ → Type 0) → ((at : ℕ) → length text ≤ at → P at)
    → ((at : ℕ) → at < length text → P (at + length (first_line (drop at text)) + 1) → P at) → (at : ℕ) → P at
by_lines text P past each at = go (suc (length text)) at (omega arith)
  where
    go : (n at : ℕ) → length text < at + n → P at
    go zero at h = past at (omega arith)
    go (suc n) at h =
        pick (ltb at (length text)) refl (go n (at + length (first_line (drop at text)) + 1) (omega arith))
      where
        pick : (t : Bool) → ltb at (length text) ≡ t → P (at + length (first_line (drop at text)) + 1) → P at
        pick true e later = each at (ltb-true at (length text) e) later
        pick false e later = past at (ltb-false at (length text) e)

-- how long a part of a text is
pub part_count : (text : List ℕ) (at end : ℕ) → at ≤ end → end ≤ length text → length (take (end - at) (drop at text)) ≡ end - at
part_count text at end le h = length-take-le (end - at) (drop at text) (omega (arith, length-drop at text))

-- a word of a line stands in the line's text too
pub record Stands (text : List ℕ) (at end from to : ℕ) : Type 0 where
  pub runs : from ≤ to
  pub in_line : to ≤ length (take (end - at) (drop at text))
  pub in_text : at + to ≤ length text

pub word_stands : (text : List ℕ) (at end from to : ℕ) → (at ≤ end) × (end ≤ length text) → (from ≤ to) × (to ≤ length (take (end - at) (drop at text))) →
    Stands text at end from to
word_stands text at end from to inside word =
    record { runs = word.0; in_line = word.1; in_text = omega (arith, part_count text at end inside.0 inside.1) }

pub word_in_text : (text : List ℕ) (at end from to : ℕ) → Stands text at end from to →
    take (to - from) (drop (at + from) text) ≡ take (to - from) (drop from (take (end - at) (drop at text)))
word_in_text text at end from to stands =
    let m : List ℕ = drop at text in
    let p : List ℕ = take (end - at) m in
    let q : List ℕ = drop (end - at) m in
    let front : drop from (p ++ q) ≡ drop from p ++ q = drop-append-le from p q (omega arith) in
    let short : take (to - from) (drop from p ++ q) ≡ take (to - from) (drop from p) =
    take-append-le (to - from) (drop from p) q (omega (arith, length-drop from p))
    in
    ap (take (to - from)) (sym (drop-drop from at text) ∙ ap (drop from) (sym (take-append-drop (end - at) m)) ∙ front) ∙ short

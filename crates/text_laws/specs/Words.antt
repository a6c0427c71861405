-- A label's value is the number of words that the lines above it give. Assumes nothing.
use Rattle.std.specs.Prelude.{◌≡◌, refl, Bool, true, false, ◌&&◌, ℕ, ◌+◌, min, eqb, ltb, Err, None, Ok, Option, Some}
use Rattle.std.proofs.Common.{ap, sym, subst, ◌∙◌, zero-add, add-zero, arith, eq-eqb, eqb-true}
use mathlib.Core.List.{List, [], ◌∷◌, ◌++◌}
use Rattle.std.proofs.Math.ListN.{length, length-append}
use Rattle.grammar.specs.Tokens.{Token, tokens, lines, same}
use Rattle.grammar.specs.Kept.{kept_as}
use Rattle.grammar.specs.Sums.{Entry, Reading, sum_of, find, end_of_range}
use Rattle.grammar.specs.Lines.{Label, label_of, body_of, size_of, words_of_kept, words_by, Operand, register, one, two, with_sum, with_second, with_registers, order, sum_line, body_by, given, line_words}
use Rattle.grammar.specs.Texts.{number, most_names, give, give_flaw, again_flaw, given_flaw, label_gives, label_flaw, lower, labels_given, script_words, next, judged, given_names, given_all}
use Rattle.grammar.specs.declared.Given.{Given}
use Rattle.grammar.specs.declared.Kept.{Kept}
use Rattle.grammar.specs.declared.NoValue.{NoValue}
use Rattle.grammar.specs.declared.Operands.{Operands}
use Rattle.grammar.specs.declared.Refusal.{Refusal}
use Rattle.text_laws.specs.Lined.{Judgement, names_lines, script_lines, Clean}
use Rattle.text_laws.specs.Refused.{accepted}

abbrev entry : List ℕ → ℕ → Entry
entry w v = record { spelt = w; value = v }

-- what a body inside the grammar gives has so many words
abbrev Gives : ℕ → Option Given → Type 0
Gives n None = Unit {0}
Gives n (Some Given.Nothing) = n ≡ 0
Gives n (Some (Given.One v)) = n ≡ 1
Gives n (Some (Given.Two f v)) = n ≡ 2

sum_gives : (x : Reading) → Gives 1 (sum_line x)
sum_gives Reading.outside = tt
sum_gives (Reading.read v ts) = refl

one_gives : (f : ℕ) (ts : List Token) → Gives 1 (one f ts)
one_gives f [] = refl
one_gives f (t ∷ ts) = tt

two_gives : (f : ℕ) (x : Reading) → Gives 2 (two f x)
two_gives f Reading.outside = tt
two_gives f (Reading.read v ts) = refl

with_sum_gives : (es : List Entry) (f : ℕ) (x : Operand) → Gives 2 (with_sum es f x)
with_sum_gives es f Operand.missing = tt
with_sum_gives es f (Operand.at a ts) = two_gives _ (sum_of es ts)

with_second_gives : (f : ℕ) (x : Operand) → Gives 1 (with_second f x)
with_second_gives f Operand.missing = tt
with_second_gives f (Operand.at b ts) = one_gives _ ts

with_registers_gives : (f : ℕ) (x : Operand) → Gives 1 (with_registers f x)
with_registers_gives f Operand.missing = tt
with_registers_gives f (Operand.at a ts) = with_second_gives _ (register ts)

order_gives : (es : List Entry) (o : Operands) (f : ℕ) (ts : List Token) → Gives (words_by o) (order es o f ts)
order_gives es Operands.Nothing f ts = one_gives f ts
order_gives es Operands.Sum f ts = two_gives f (sum_of es ts)
order_gives es Operands.RegisterSum f ts = with_sum_gives es f (register ts)
order_gives es Operands.Registers f ts = with_registers_gives f (register ts)

body_gives : (es : List Entry) (k : Kept) (line ts : List Token) → Gives (words_of_kept k) (body_by es k line ts)
body_gives es Kept.Free line ts = sum_gives (sum_of es line)
body_gives es (Kept.Register a) line ts = tt
body_gives es (Kept.Order o f) line ts = order_gives es o f ts
body_gives es Kept.Later line ts = tt

given_gives : (es : List Entry) (ts : List Token) → Gives (size_of ts) (given es ts)
unfolding size_of given
given_gives es [] = refl
given_gives es (Token.number ds ∷ ts) = sum_gives (sum_of es (Token.number ds ∷ ts))
given_gives es (Token.word w ∷ ts) = body_gives es (kept_as w) (Token.word w ∷ ts) ts
given_gives es (Token.mark b ∷ ts) = sum_gives (sum_of es (Token.mark b ∷ ts))
given_gives es (Token.stray ∷ ts) = tt

-- a body with nothing wrong gives as many words as its first token says
words_by_size : (n : ℕ) (x : Option Given) → Gives n x → given_flaw x ≡ None → length (line_words x) ≡ n
words_by_size n None g e = absurd (let z : ◌≡◌ {A = ℕ} 0 1 = cc in omega arith)
words_by_size n (Some Given.Nothing) g e = sym g
words_by_size n (Some (Given.One (Ok v))) g e = sym g
words_by_size n (Some (Given.One (Err NoValue.Missing))) g e = absurd (let z : ◌≡◌ {A = ℕ} 0 1 = cc in omega arith)
words_by_size n (Some (Given.One (Err NoValue.Beyond))) g e = absurd (let z : ◌≡◌ {A = ℕ} 0 1 = cc in omega arith)
words_by_size n (Some (Given.Two f (Ok v))) g e = sym g
words_by_size n (Some (Given.Two f (Err NoValue.Missing))) g e = absurd (let z : ◌≡◌ {A = ℕ} 0 1 = cc in omega arith)
words_by_size n (Some (Given.Two f (Err NoValue.Beyond))) g e = absurd (let z : ◌≡◌ {A = ℕ} 0 1 = cc in omega arith)

pub size_is_words : (es : List Entry) (ts : List Token) → given_flaw (given es ts) ≡ None → size_of ts ≡ length (line_words (given es ts))
size_is_words es ts e = sym (words_by_size (size_of ts) (given es ts) (given_gives es ts) e)

-- where nothing is wrong with a line, nothing is wrong with its label nor with its body
pub lower_nothing : (x y : Option Refusal) → lower x y ≡ None → (x ≡ None) × (y ≡ None)
lower_nothing None y e = (refl, e)
lower_nothing (Some r) None e = absurd (let z : ◌≡◌ {A = ℕ} 0 1 = cc in omega arith)
lower_nothing (Some r) (Some q) e = absurd (either (ltb (number q) (number r)) e)
  where
    either : (t : Bool) → elim t as (λ _. Option Refusal) [ true ↦ Some q | false ↦ Some r ] ≡ None → ⊥
    either true z = let x : ◌≡◌ {A = ℕ} 0 1 = cc in omega arith
    either false z = let x : ◌≡◌ {A = ℕ} 0 1 = cc in omega arith

-- a word is the same as itself, and as no other
pub same_self : (w : List ℕ) → same w w ≡ true
unfolding same
same_self [] = refl
same_self (b ∷ w) = rw (eq-eqb b b refl, same_self w)

pub same_is : (v w : List ℕ) → same v w ≡ true → v ≡ w
unfolding same
same_is [] [] e = refl
same_is [] (b ∷ w) e = absurd (let z : ◌≡◌ {A = ℕ} 0 1 = cc in omega arith)
same_is (a ∷ v) [] e = absurd (let z : ◌≡◌ {A = ℕ} 0 1 = cc in omega arith)
same_is (a ∷ v) (b ∷ w) e = go (eqb a b) refl (same_is v w) e
  where
    go : (t : Bool) → eqb a b ≡ t → (same v w ≡ true → v ≡ w) → (t && same v w) ≡ true → a ∷ v ≡ b ∷ w
    go true h later z = let i : a ≡ b = eqb-true a b h in let j : v ≡ w = later z in cc
    go false h later z = absurd (let z : ◌≡◌ {A = ℕ} 0 1 = cc in omega arith)

-- a label with nothing wrong is new, and is given
given_new : (es : List Entry) (w : List ℕ) (v : ℕ) → give_flaw es w ≡ None → (give es w v ≡ entry w v ∷ es) × (find es w ≡ None)
given_new es w v e = go (ltb (length es) most_names) (find es w) e
  where
    go : (t : Bool) (x : Option ℕ) → elim t as (λ _. Option Refusal) [ true ↦ again_flaw x | false ↦ Some Refusal.OutsideGrammar ] ≡ None
        → (elim t as (λ _. List Entry) [ true ↦ entry w v ∷ es | false ↦ es ] ≡ entry w v ∷ es) × (x ≡ None)
    go true None z = (refl, refl)
    go true (Some n) z = absurd (let z : ◌≡◌ {A = ℕ} 0 1 = cc in omega arith)
    go false x z = absurd (let z : ◌≡◌ {A = ℕ} 0 1 = cc in omega arith)

-- what is found stays found where the next label has nothing wrong
still_found : (es : List Entry) (w : List ℕ) (v p : ℕ) (x : Label) → find es w ≡ Some v → label_flaw es x ≡ None → find (label_gives es p x) w ≡ Some v
unfolding find
still_found es w v p Label.none h e = h
still_found es w v p (Label.label u) h e =
    let new = given_new es u (min p end_of_range) e in
    ap (λ ds. find ds w) new.0 ∙ go (same u w) refl new.1
  where
    go : (t : Bool) → same u w ≡ t → find es u ≡ None → elim t as (λ _. Option ℕ) [ true ↦ Some (min p end_of_range) | false ↦ find es w ] ≡ Some v
    go true z n = absurd (let i : u ≡ w = same_is u w z in let x : ◌≡◌ {A = ℕ} 0 1 = cc in omega arith)
    go false z n = h

just_found : (es : List Entry) (w : List ℕ) (p : ℕ) → give_flaw es w ≡ None → find (label_gives es p (Label.label w)) w ≡ Some (min p end_of_range)
unfolding find
just_found es w p e = ap (λ ds. find ds w) (given_new es w (min p end_of_range) e).0 ∙ rw (same_self w, find)

module _ (all : List Entry) where
  all_found : (ls : List (List ℕ)) (es : List Entry) (p at : ℕ) (w : List ℕ) (v : ℕ) → Clean (script_lines all es p at ls) → find es w ≡ Some v → find (labels_given es p ls) w ≡ Some v
  unfolding script_lines labels_given
  all_found [] es p at w v c h = h
  all_found (l ∷ ls) es p at w v c h =
      let e = lower_nothing (label_flaw es (label_of (tokens l))) (given_flaw (given all (body_of (tokens l)))) c.0 in
      all_found ls (label_gives es p (label_of (tokens l))) (p + size_of (body_of (tokens l))) (next at l) w v c.1 (still_found es w v p (label_of (tokens l)) h e.0)

  found_at_place : (xs ys : List (List ℕ)) (l : List ℕ) (es : List Entry) (p at : ℕ) (w : List ℕ) → Clean (script_lines all es p at (xs ++ (l ∷ ys))) → label_of (tokens l) ≡ Label.label w
      → find (labels_given es p (xs ++ (l ∷ ys))) w ≡ Some (min (p + length (script_words all xs)) end_of_range)
  unfolding script_lines labels_given script_words find
  found_at_place [] ys l es p at w c e =
      let h = lower_nothing (label_flaw es (label_of (tokens l))) (given_flaw (given all (body_of (tokens l)))) c.0 in
      all_found ys (label_gives es p (label_of (tokens l))) (p + size_of (body_of (tokens l))) (next at l) w (min (p + 0) end_of_range) c.1
      (rw (add-zero, e) (just_found es w p (rw e at h.0)))
  found_at_place (x ∷ xs) ys l es p at w c e =
      let h = lower_nothing (label_flaw es (label_of (tokens x))) (given_flaw (given all (body_of (tokens x)))) c.0 in
      let n : p + size_of (body_of (tokens x)) + length (script_words all xs) ≡ p + length (line_words (given all (body_of (tokens x))) ++ script_words all xs) = omega (arith, size_is_words all (body_of (tokens x)) h.1, length-append (line_words (given all (body_of (tokens x)))) (script_words all xs)) in
      found_at_place xs ys l (label_gives es p (label_of (tokens x))) (p + size_of (body_of (tokens x))) (next at x) w c.1 e ∙ rw n

clean_second : (xs ys : List Judgement) → Clean (xs ++ ys) → Clean ys
clean_second [] ys h = h
clean_second (j ∷ xs) ys h = clean_second xs ys h.1

-- in a text that is accepted, the label of a line has as its value the number of words that the lines above it give
pub label_counts_words : (names script : List ℕ) (room n : ℕ) → judged names script room ≡ Ok n
    → (xs ys : List (List ℕ)) (l w : List ℕ) → lines script ≡ xs ++ (l ∷ ys) → label_of (tokens l) ≡ Label.label w
    → find (given_all names script) w ≡ Some (min (length (script_words (given_all names script) xs)) end_of_range)
label_counts_words names script room n fine xs ys l w e h =
    let all : List Entry = given_all names script in
    let clean : Clean (script_lines all (given_names names) 0 0 (lines script)) = clean_second (names_lines [] 0 (lines names)) (script_lines all (given_names names) 0 0 (lines script)) ((accepted names script room n).0 fine).0 in
    ap (λ ls. find (labels_given (given_names names) 0 ls) w) e ∙ found_at_place all xs ys l (given_names names) 0 0 w (subst (λ ls. Clean (script_lines all (given_names names) 0 0 ls)) e clean) h ∙ rw zero-add

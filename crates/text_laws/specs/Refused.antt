-- Which texts are accepted, and what a refusal comes from. Assumes nothing.
use Rattle.std.specs.Prelude.{◌≡◌, refl, Bool, true, false, List, [], ◌∷◌, ◌++◌, map, ◌⊎◌, ◌↔◌, ℕ, ◌+◌, ◌<◌, ◌≤◌, leb, ltb, length, get_or, Err, None, Ok, Option, Result, Some}
use Rattle.std.proofs.Math.Path.{ap}
use Rattle.std.proofs.Common.{sym, ◌∙◌, inl, inr, arith, ltb-true, ltb-false, leb-true, le-leb}
use Rattle.std.proofs.lemmas.Option.{some_pair_parts}
use Rattle.grammar.specs.Tokens.{lines, tokens}
use Rattle.grammar.specs.Sums.{Entry, find}
use Rattle.grammar.specs.Lines.{NamesLine, names_line, Label, label_of, body_of, size_of, given}
use Rattle.grammar.specs.Texts.{number, most_names, again_flaw, give_flaw, worked_flaw, lower, names_flaw, names_give, label_gives, label_flaw, given_flaw, script_flaw, noted, line, next, names_fault, script_fault, script_words, last_line, nowhere, texts_fault, room_flaw, judged_as, judged, program, given_names, given_all}
use Rattle.grammar.specs.declared.NoValue.{NoValue}
use Rattle.grammar.specs.declared.Refusal.{Refusal}
use Rattle.grammar.specs.declared.Given.{Given}
use Rattle.grammar.specs.declared.Line.{Line}
use Rattle.grammar.specs.declared.Text.{Text}
use Rattle.text_laws.specs.Lined.{Judgement, judgement, names_lines, script_lines, all_lines, placed, count, last, noted_all, NoneBelow, Each, Clean, First}
use Rattle.text_laws.specs.First.{noted_kept, noted_clean, clean_noted, noted_more, each_both, each_at}

-- the fault of the texts is noted over their lines
names_noted : (es : List Entry) (f : Option (Refusal × Line)) (at : ℕ) (ls : List (List ℕ)) → names_fault es f at ls ≡ noted_all f (names_lines es at ls)
unfolding names_fault names_lines
names_noted es f at [] = refl
names_noted es f at (l ∷ ls) =
    names_noted (names_give es (names_line es (tokens l))) (noted f (names_flaw es (names_line es (tokens l))) (line Text.Names at l)) (next at l) ls

script_noted : (all above : List Entry) (p : ℕ) (f : Option (Refusal × Line)) (at : ℕ) (ls : List (List ℕ)) → script_fault all above p f at ls ≡ noted_all f (script_lines all above p at ls)
unfolding script_fault script_lines
script_noted all above p f at [] = refl
script_noted all above p f at (l ∷ ls) =
    script_noted all (label_gives above p (label_of (tokens l))) (p + size_of (body_of (tokens l))) (noted f (script_flaw all above l) (line Text.Script at l)) (next at l) ls

pub texts_noted : (names script : List ℕ) → texts_fault names script ≡ noted_all None (all_lines names script)
texts_noted names script =
    script_noted (given_all names script) (given_names names) 0 (names_fault [] None 0 (lines names)) 0 (lines script)
    ∙ ap (λ f. noted_all f (script_lines (given_all names script) (given_names names) 0 0 (lines script))) (names_noted [] None 0 (lines names))
    ∙ sym (noted_more None (names_lines [] 0 (lines names)) (script_lines (given_all names script) (given_names names) 0 0 (lines script)))

-- the lines of the texts are all of them, where they stand
names_placed : (es : List Entry) (at : ℕ) (ls : List (List ℕ)) → map (λ (j : Judgement). j.line) (names_lines es at ls) ≡ placed Text.Names at ls
unfolding names_lines
names_placed es at [] = refl
names_placed es at (l ∷ ls) =
    ap (λ (ks : List Line). line Text.Names at l ∷ ks) (names_placed (names_give es (names_line es (tokens l))) (next at l) ls)

script_placed : (all above : List Entry) (p at : ℕ) (ls : List (List ℕ)) → map (λ (j : Judgement). j.line) (script_lines all above p at ls) ≡ placed Text.Script at ls
unfolding script_lines
script_placed all above p at [] = refl
script_placed all above p at (l ∷ ls) =
    ap (λ (ks : List Line). line Text.Script at l ∷ ks) (script_placed all (label_gives above p (label_of (tokens l))) (p + size_of (body_of (tokens l))) (next at l) ls)

map_both : {A B : Type 0} (f : A → B) (xs ys : List A) → map f (xs ++ ys) ≡ map f xs ++ map f ys
map_both f [] ys = refl
map_both f (x ∷ xs) ys = ap (λ zs. f x ∷ zs) (map_both f xs ys)

pub all_placed : (names script : List ℕ) → map (λ (j : Judgement). j.line) (all_lines names script) ≡ placed Text.Names 0 (lines names) ++ placed Text.Script 0 (lines script)
all_placed names script =
    map_both (λ (j : Judgement). j.line) (names_lines [] 0 (lines names)) (script_lines (given_all names script) (given_names names) 0 0 (lines script))
    ∙ rw (names_placed [] 0 (lines names), script_placed (given_all names script) (given_names names) 0 0 (lines script))

-- of two things that may be wrong with a line neither has a number lower than what is wrong with it
pub lower_none : (n : ℕ) (x y : Option Refusal) → NoneBelow n (lower x y) → NoneBelow n x × NoneBelow n y
lower_none n None y h = (tt, h)
lower_none n (Some r) None h = (h, tt)
lower_none n (Some r) (Some q) h = either (ltb (number q) (number r)) refl h
  where
    either : (t : Bool) → ltb (number q) (number r) ≡ t → NoneBelow n (elim t as (λ _. Option Refusal) [ true ↦ Some q | false ↦ Some r ]) → (n ≤ number r) × (n ≤ number q)
    either true e g = (omega (arith, ltb-true (number q) (number r) e), g)
    either false e g = (g, omega (arith, ltb-false (number q) (number r) e))

-- no line has the number 16
abbrev OfLine : Option Refusal → Type 0
OfLine None = Unit {0}
OfLine (Some r) = number r < 16

lower_of_line : (x y : Option Refusal) → OfLine x → OfLine y → OfLine (lower x y)
lower_of_line None y h g = g
lower_of_line (Some r) None h g = h
lower_of_line (Some r) (Some q) h g = either (ltb (number q) (number r))
  where
    either : (t : Bool) → OfLine (elim t as (λ _. Option Refusal) [ true ↦ Some q | false ↦ Some r ])
    either true = g
    either false = h

worked_of_line : (v : Result ℕ NoValue) → OfLine (worked_flaw v)
worked_of_line (Ok v) = tt
worked_of_line (Err NoValue.Missing) = omega arith
worked_of_line (Err NoValue.Beyond) = omega arith

give_of_line : (es : List Entry) (w : List ℕ) → OfLine (give_flaw es w)
give_of_line es w = either (ltb (length es) most_names) (find es w)
  where
    either : (t : Bool) (x : Option ℕ) → OfLine (elim t as (λ _. Option Refusal) [ true ↦ again_flaw x | false ↦ Some Refusal.OutsideGrammar ])
    either true None = tt
    either true (Some v) = omega arith
    either false x = omega arith

names_of_line : (es : List Entry) (x : NamesLine) → OfLine (names_flaw es x)
names_of_line es NamesLine.outside = omega arith
names_of_line es NamesLine.blank = tt
names_of_line es (NamesLine.gives w v) = lower_of_line (give_flaw es w) (worked_flaw v) (give_of_line es w) (worked_of_line v)

label_of_line : (es : List Entry) (x : Label) → OfLine (label_flaw es x)
label_of_line es Label.none = tt
label_of_line es (Label.label w) = give_of_line es w

given_of_line : (x : Option Given) → OfLine (given_flaw x)
given_of_line None = omega arith
given_of_line (Some Given.Nothing) = tt
given_of_line (Some (Given.One v)) = worked_of_line v
given_of_line (Some (Given.Two f v)) = worked_of_line v

names_of_lines : (es : List Entry) (at : ℕ) (ls : List (List ℕ)) → Each OfLine (names_lines es at ls)
unfolding names_lines
names_of_lines es at [] = tt
names_of_lines es at (l ∷ ls) = (names_of_line es (names_line es (tokens l)), names_of_lines (names_give es (names_line es (tokens l))) (next at l) ls)

script_of_lines : (all above : List Entry) (p at : ℕ) (ls : List (List ℕ)) → Each OfLine (script_lines all above p at ls)
unfolding script_lines
script_of_lines all above p at [] = tt
script_of_lines all above p at (l ∷ ls) = (
  lower_of_line (label_flaw above (label_of (tokens l))) (given_flaw (given all (body_of (tokens l)))) (label_of_line above (label_of (tokens l))) (given_of_line (given all (body_of (tokens l)))),
  script_of_lines all (label_gives above p (label_of (tokens l))) (p + size_of (body_of (tokens l))) (next at l) ls,
)

pub line_is_below_16 : (names script : List ℕ) (r : Refusal) (l : Line) → First r l (all_lines names script) → number r < 16
line_is_below_16 names script r l x =
    each_at OfLine x.before x.after (judgement (Some r) l)
    (rw x.stands at (each_both OfLine (names_lines [] 0 (lines names)) (script_lines (given_all names script) (given_names names) 0 0 (lines script)) (names_of_lines [] 0 (lines names)) (script_of_lines (given_all names script) (given_names names) 0 0 (lines script))))

-- a fault, and then the room
number_at_most_16 : (r : Refusal) → number r ≤ 16
number_at_most_16 Refusal.OutsideGrammar = omega arith
number_at_most_16 Refusal.NameFault = omega arith
number_at_most_16 Refusal.OutOfRange = omega arith
number_at_most_16 Refusal.NoRoom = omega arith

abbrev pub room_if : Bool → Option Refusal
room_if t = elim t [ true ↦ None | false ↦ Some Refusal.NoRoom ]

pub room_after_line : (r : Refusal) (l m : Line) (t : Bool) → noted (Some (r, l)) (room_if t) m ≡ Some (r, l)
room_after_line r l m true = refl
room_after_line r l m false = noted_kept r l (Some Refusal.NoRoom) m (number_at_most_16 r)

module _ (c : ℕ) (m : Line) where
  refused_as : (f : Option (Refusal × Line)) (r : Refusal) (l : Line) → judged_as f c ≡ Err (r, l) → f ≡ Some (r, l)
  refused_as None r l e = absurd (let z : ◌≡◌ {A = ℕ} 0 1 = cc in omega arith)
  refused_as (Some (q, k)) r l e = cc

  refused_for : (f : Option (Refusal × Line)) (t : Bool) (r : Refusal) (l : Line) → judged_as (noted f (room_if t) m) c ≡ Err (r, l)
      → (f ≡ Some (r, l)) ⊎ ((f ≡ None) × (t ≡ false) × (r ≡ Refusal.NoRoom) × (l ≡ m))
  refused_for None true r l e = absurd (let z : ◌≡◌ {A = ℕ} 0 1 = cc in omega arith)
  refused_for None false r l e =
      let p = some_pair_parts _ _ _ _ (refused_as (Some (Refusal.NoRoom, m)) r l e) in
      inr (refl, refl, sym p.0, sym p.1)
  refused_for (Some (q, k)) t r l e = inl (sym (room_after_line q k m t) ∙ refused_as (noted (Some (q, k)) (room_if t) m) r l e)

  accepted_for : (f : Option (Refusal × Line)) (t : Bool) (n : ℕ) → judged_as (noted f (room_if t) m) c ≡ Ok n → (f ≡ None) × (t ≡ true) × (n ≡ c)
  accepted_for None true n e = (refl, refl, cc)
  accepted_for None false n e = absurd (let z : ◌≡◌ {A = ℕ} 0 1 = cc in omega arith)
  accepted_for (Some (q, k)) t n e =
      let z : ◌≡◌ {A = Result ℕ (Refusal × Line)} (Err (q, k)) (Ok n) = ap (λ f. judged_as f c) (sym (room_after_line q k m t)) ∙ e in
      absurd (let z : ◌≡◌ {A = ℕ} 0 1 = cc in omega arith)

-- the fault of the lines
abbrev pub lines_fault : List ℕ → List ℕ → Option (Refusal × Line)
lines_fault names script = noted_all None (all_lines names script)

module _ (names script : List ℕ) (room : ℕ) where
  abbrev pub fits : Bool
  fits = leb (count names script) room

  pub judged_by : (f : Option (Refusal × Line)) (t : Bool) → lines_fault names script ≡ f → fits ≡ t
      → judged names script room ≡ judged_as (noted f (room_if t) (last script)) (count names script)
  unfolding judged
  judged_by f t e h =
      ap (λ g. judged_as (noted g (room_flaw (count names script) room) (last script)) (count names script)) (texts_noted names script ∙ e)
      ∙ ap (λ b. judged_as (noted f (room_if b) (last script)) (count names script)) h

  pub judged_is : judged names script room
      ≡ judged_as (noted (lines_fault names script) (room_if fits) (last script)) (count names script)
  judged_is = judged_by (lines_fault names script) fits refl refl

  -- a text is accepted exactly where nothing is wrong with any line and its words fit the target; the answer is their count
  pub accepted : (n : ℕ) → (judged names script room ≡ Ok n) ↔ (Clean (all_lines names script) × (count names script ≤ room) × (n ≡ count names script))
  accepted n = (
    λ e. let h = accepted_for (count names script) (last script) (lines_fault names script) fits n (sym judged_is ∙ e) in
        (noted_clean (all_lines names script) h.0, leb-true (count names script) room h.1, h.2),
    λ h. judged_by None true (clean_noted (all_lines names script) h.0) (le-leb (count names script) room h.1) ∙ ap Ok (sym h.2),
  )

  pub why : (r : Refusal) (l : Line) → judged names script room ≡ Err (r, l)
      → (lines_fault names script ≡ Some (r, l))
      ⊎ ((lines_fault names script ≡ None) × (fits ≡ false) × (r ≡ Refusal.NoRoom) × (l ≡ last script))
  why r l e = refused_for (count names script) (last script) (lines_fault names script) fits r l (sym judged_is ∙ e)

-- the script's last line is the last of its lines
pub last_placed : (k : Line) (at : ℕ) (l : List ℕ) (ls : List (List ℕ)) → last_line k at (l ∷ ls) ≡ get_or (placed Text.Script at (l ∷ ls)) (length ls) nowhere
unfolding last_line
last_placed k at l [] = refl
last_placed k at l (m ∷ ls) = last_placed (line Text.Script at l) (next at l) m ls

-- a script without lines gives no word
words_need_lines : (all : List Entry) (ls : List (List ℕ)) → 0 < length (script_words all ls) → 0 < length ls
unfolding script_words
words_need_lines all [] h = h
words_need_lines all (l ∷ ls) h = omega arith

pub program_needs_lines : (names script : List ℕ) → 0 < count names script → 0 < length (lines script)
unfolding program
program_needs_lines names script h = words_need_lines (given_all names script) (lines script) h

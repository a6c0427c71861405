-- What two texts come to depends only on the tokens of their lines. Assumes nothing.
use Rattle.std.specs.Prelude.{◌≡◌, refl, Bool, true, false, leb, ltb, length, get_or, Err, None, Ok, Option, Result, Some}
use Rattle.std.proofs.Common.{ap, sym, ◌∙◌, arith, leb-false}
use mathlib.Core.List.{List, [], ◌∷◌, ◌++◌, map}
use Prim.Native.Nat.{ℕ, zero, suc, ◌+◌, ◌<◌}
use Rattle.grammar.specs.Tokens.{lines, tokens}
use Rattle.grammar.specs.Sums.{Entry}
use Rattle.grammar.specs.Lines.{names_line, label_of, body_of, size_of, given, line_words}
use Rattle.grammar.specs.Texts.{number, lower, names_flaw, names_give, label_gives, label_flaw, given_flaw, noted, next, names_given, labels_given, script_words, last_line, nowhere, judged_as, judged, answered, stored, program, given_names, given_all, text_of}
use Rattle.grammar.specs.Promises.{Translates}
use Rattle.grammar.specs.declared.Refusal.{Refusal}
use Rattle.grammar.specs.declared.Line.{Line}
use Rattle.grammar.specs.declared.Text.{Text}
use Rattle.text_laws.specs.Lined.{Judgement, judgement, names_lines, script_lines, all_lines, placed, count, last, noted_all, Alike, SameLine, SameJudged}
use Rattle.text_laws.specs.Refused.{lines_fault, room_if, judged_is, last_placed, program_needs_lines}

-- lines with the same tokens, one by one
data SameTokens : List (List ℕ) → List (List ℕ) → Type 0 where
  none : SameTokens [] []
  more : {l m : List ℕ} {ls ms : List (List ℕ)} → tokens l ≡ tokens m → SameTokens ls ms → SameTokens (l ∷ ls) (m ∷ ms)

same_tokens : (ls ms : List (List ℕ)) → map tokens ls ≡ map tokens ms → SameTokens ls ms
same_tokens [] [] e = none
same_tokens [] (m ∷ ms) e = absurd (let z : ◌≡◌ {A = ℕ} 0 1 = cc in omega arith)
same_tokens (l ∷ ls) [] e = absurd (let z : ◌≡◌ {A = ℕ} 0 1 = cc in omega arith)
same_tokens (l ∷ ls) (m ∷ ms) e = let h : tokens l ≡ tokens m = cc in more h (same_tokens ls ms (cc))

same_length : {ls ms : List (List ℕ)} → SameTokens ls ms → length ls ≡ length ms
same_length none = refl
same_length (more e s) = ap suc (same_length s)

-- what is given, and the words
same_names : {ls ms : List (List ℕ)} (es : List Entry) → SameTokens ls ms → names_given es ls ≡ names_given es ms
unfolding names_given
same_names es none = refl
same_names es (more {l} {m} {ls} {ms} e s) =
    same_names (names_give es (names_line es (tokens l))) s ∙ ap (λ ts. names_given (names_give es (names_line es ts)) ms) e

same_labels : {ls ms : List (List ℕ)} (es : List Entry) (p : ℕ) → SameTokens ls ms → labels_given es p ls ≡ labels_given es p ms
unfolding labels_given
same_labels es p none = refl
same_labels es p (more {l} {m} {ls} {ms} e s) =
    same_labels (label_gives es p (label_of (tokens l))) (p + size_of (body_of (tokens l))) s
    ∙ ap (λ ts. labels_given (label_gives es p (label_of ts)) (p + size_of (body_of ts)) ms) e

same_words : {ls ms : List (List ℕ)} (all : List Entry) → SameTokens ls ms → script_words all ls ≡ script_words all ms
unfolding script_words
same_words all none = refl
same_words all (more {l} {m} {ls} {ms} e s) =
    ap (λ ws. line_words (given all (body_of (tokens l))) ++ ws) (same_words all s) ∙ ap (λ ts. line_words (given all (body_of ts)) ++ script_words all ms) e

-- lines with the same flaw, one by one, where R holds of where they stand
data Related (R : Line → Line → Type 0) : List Judgement → List Judgement → Type 0 where
  none : Related R [] []
  more : {w v : Option Refusal} {l m : Line} {js ks : List Judgement} → w ≡ v → R l m → Related R js ks → Related R (judgement w l ∷ js) (judgement v m ∷ ks)

module _ (R : Line → Line → Type 0) where
  related_both : {xs ys js ks : List Judgement} → Related R xs ys → Related R js ks → Related R (xs ++ js) (ys ++ ks)
  related_both none b = b
  related_both (more e h a) b = more e h (related_both a b)

  same_flaws : {js ks : List Judgement} → Related R js ks → map (λ (j : Judgement). j.flaw) js ≡ map (λ (j : Judgement). j.flaw) ks
  same_flaws none = refl
  same_flaws (more {w} {v} {l} {m} {js} {ks} e h a) = rw (e, same_flaws a)

  -- R holds of where the lines of two texts stand
  abbrev Placed : Text → ℕ → ℕ → List (List ℕ) → List (List ℕ) → Type 0
  Placed t at to ls ms = (i : ℕ) → i < length ls → R (get_or (placed t at ls) i nowhere) (get_or (placed t to ms) i nowhere)

  related_names : {ls ms : List (List ℕ)} (es : List Entry) (at to : ℕ) → SameTokens ls ms → Placed Text.Names at to ls ms → Related R (names_lines es at ls) (names_lines es to ms)
  unfolding names_lines
  related_names es at to none h = none
  related_names es at to (more {l} {m} {ls} {ms} e s) h =
      let given_by : List ℕ → List Entry = λ n. names_give es (names_line es (tokens n)) in
      let later : Related R (names_lines (given_by l) (next at l) ls) (names_lines (given_by m) (next to m) ms) = rw (← e) (related_names (given_by l) (next at l) (next to m) s (λ i g. h (suc i) (omega arith))) in
      more (ap (λ ts. names_flaw es (names_line es ts)) e) (h 0 (omega arith)) later

  related_script : {ls ms : List (List ℕ)} (all above : List Entry) (p at to : ℕ) → SameTokens ls ms → Placed Text.Script at to ls ms
      → Related R (script_lines all above p at ls) (script_lines all above p to ms)
  unfolding script_lines
  related_script all above p at to none h = none
  related_script all above p at to (more {l} {m} {ls} {ms} e s) h =
      let below : List ℕ → List Entry = λ n. label_gives above p (label_of (tokens n)) in
      let past : List ℕ → ℕ = λ n. p + size_of (body_of (tokens n)) in
      let later : Related R (script_lines all (below l) (past l) (next at l) ls) (script_lines all (below m) (past m) (next to m) ms) = rw (← e) (related_script all (below l) (past l) (next at l) (next to m) s (λ i g. h (suc i) (omega arith))) in
      more (ap (λ ts. lower (label_flaw above (label_of ts)) (given_flaw (given all (body_of ts)))) e) (h 0 (omega arith)) later

  related_last : {ls ms : List (List ℕ)} (k k' : Line) (at to : ℕ) → SameTokens ls ms → 0 < length ls → Placed Text.Script at to ls ms → R (last_line k at ls) (last_line k' to ms)
  related_last k k' at to none z h = absurd (omega arith)
  related_last k k' at to (more {l} {m} {ls} {ms} e s) z h =
      rw (last_placed k at l ls, last_placed k' to m ms, ← same_length s) (h (length ls) (omega arith))

  -- the same fault, at lines of which R holds
  abbrev SameFault : Option (Refusal × Line) → Option (Refusal × Line) → Type 0
  SameFault None None = Unit {0}
  SameFault None (Some (q, k)) = ⊥
  SameFault (Some (r, l)) None = ⊥
  SameFault (Some (r, l)) (Some (q, k)) = (r ≡ q) × R l k

  same_noted : (f g : Option (Refusal × Line)) (w : Option Refusal) (l m : Line) → SameFault f g → R l m → SameFault (noted f w l) (noted g w m)
  same_noted f g None l m h x = h
  same_noted None None (Some p) l m h x = (refl, x)
  same_noted None (Some (q, k)) (Some p) l m h x = absurd h
  same_noted (Some (q, k)) None (Some p) l m h x = absurd h
  same_noted (Some (q, k)) (Some (q', k')) (Some p) l m h x =
      rw h.0 (either (ltb (number p) (number q')))
    where
      either : (t : Bool) → SameFault (elim t as (λ _. Option (Refusal × Line)) [ true ↦ Some (p, l) | false ↦ Some (q', k) ]) (elim t as (λ _. Option (Refusal × Line)) [ true ↦ Some (p, m) | false ↦ Some (q', k') ])
      either true = (refl, x)
      either false = (refl, h.1)

  same_noted_all : {js ks : List Judgement} (f g : Option (Refusal × Line)) → Related R js ks → SameFault f g → SameFault (noted_all f js) (noted_all g ks)
  same_noted_all f g none h = h
  same_noted_all f g (more {w} {v} {l} {m} e x a) h =
      same_noted_all (noted f w l) (noted g v m) a (rw (← e) (same_noted f g w l m h x))

  same_judged_as : (f g : Option (Refusal × Line)) (n : ℕ) → SameFault f g → SameJudged R (judged_as f n) (judged_as g n)
  same_judged_as None None n h = refl
  same_judged_as None (Some (q, k)) n h = h
  same_judged_as (Some (r, l)) None n h = h
  same_judged_as (Some (r, l)) (Some (q, k)) n h = h

-- a line of a text stands in that text
pub placed_text : (t : Text) (at : ℕ) (ls : List (List ℕ)) (i : ℕ) → i < length ls → (get_or (placed t at ls) i nowhere).text ≡ t
placed_text t at [] i h = absurd (omega arith)
placed_text t at (l ∷ ls) zero h = refl
placed_text t at (l ∷ ls) (suc i) h = placed_text t (next at l) ls i (omega arith)

same_text : (names script names' script' : List ℕ) (l l' : Line) → SameLine names script names' script' l l' → l.text ≡ l'.text
same_text names script names' script' l l' x =
    ap (λ (k : Line). k.text) x.is ∙ placed_text x.text 0 (lines (text_of x.text names script)) x.number x.within
    ∙ sym (ap (λ (k : Line). k.text) x.is' ∙ placed_text x.text 0 (lines (text_of x.text names' script')) x.number x.within')

-- two pairs of texts that are alike
module _ (names script names' script' : List ℕ) (a : Alike names script names' script') where
  in_names : SameTokens (lines names) (lines names')
  in_names = same_tokens (lines names) (lines names') a.in_names

  in_script : SameTokens (lines script) (lines script')
  in_script = same_tokens (lines script) (lines script') a.in_script

  -- they give the same names and labels with the same values
  pub alike_names : given_names names ≡ given_names names'
  alike_names = same_names [] in_names

  pub alike_given : given_all names script ≡ given_all names' script'
  alike_given = rw alike_names (same_labels (given_names names') 0 in_script)

  -- they give the same words
  pub alike_program : program names script ≡ program names' script'
  unfolding program
  alike_program = rw alike_given (same_words (given_all names' script') in_script)

  abbrev Same : Line → Line → Type 0
  Same = SameLine names script names' script'

  names_stand : Placed Same Text.Names 0 0 (lines names) (lines names')
  names_stand i h = record { text = Text.Names; number = i; within = h; is = refl; within' = omega (arith, same_length in_names); is' = refl }

  script_stand : Placed Same Text.Script 0 0 (lines script) (lines script')
  script_stand i h = record { text = Text.Script; number = i; within = h; is = refl; within' = omega (arith, same_length in_script); is' = refl }

  related : Related Same (all_lines names script) (all_lines names' script')
  related =
      related_both Same (related_names Same [] 0 0 in_names names_stand)
      (rw (alike_given, alike_names) (related_script Same (given_all names' script') (given_names names') 0 0 0 in_script script_stand))

  -- each line has the same flaw
  pub alike_flaws : map (λ (j : Judgement). j.flaw) (all_lines names script) ≡ map (λ (j : Judgement). j.flaw) (all_lines names' script')
  alike_flaws = same_flaws Same related

  lines_same : SameFault Same (lines_fault names script) (lines_fault names' script')
  lines_same = same_noted_all Same None None related tt

  abbrev noted_room : List ℕ → List ℕ → Bool → Option (Refusal × Line)
  noted_room ns ss t = noted (lines_fault ns ss) (room_if t) (last ss)

  room_same : (room : ℕ) (t : Bool) → leb (count names script) room ≡ t → SameFault Same (noted_room names script t) (noted_room names' script' t)
  room_same room true e = lines_same
  room_same room false e =
      same_noted Same (lines_fault names script) (lines_fault names' script') (Some Refusal.NoRoom) (last script) (last script') lines_same
      (related_last Same nowhere nowhere 0 0 in_script (program_needs_lines names script (omega (arith, leb-false (count names script) room e))) script_stand)

  -- they come to the same: the same count of words, or the same number for the same line of the same text
  pub alike_judged : (room : ℕ) → SameJudged (SameLine names script names' script') (judged names script room) (judged names' script' room)
  alike_judged room =
      let t : Bool = leb (count names script) room in
      rw (judged_is names script room, judged_is names' script' room, ← alike_program)
      (same_judged_as Same (noted_room names script t) (noted_room names' script' t) (count names script) (room_same room t refl))

  same_answer : (j k : Result ℕ (Refusal × Line)) → SameJudged Same j k → answered j ≡ answered k
  same_answer (Ok n) (Ok m) h = ap Ok h
  same_answer (Ok n) (Err (q, k)) h = absurd h
  same_answer (Err (r, l)) (Ok m) h = absurd h
  same_answer (Err (r, l)) (Err (q, k)) h =
      let e : l.text ≡ k.text = same_text names script names' script' l k h.1 in
      cc h.0

  same_stored : (j k : Result ℕ (Refusal × Line)) (words target : List ℕ) → SameJudged Same j k → stored j words target ≡ stored k words target
  same_stored (Ok n) (Ok m) words target h = refl
  same_stored (Ok n) (Err (q, k)) words target h = absurd h
  same_stored (Err (r, l)) (Ok m) words target h = absurd h
  same_stored (Err (r, l)) (Err (q, k)) words target h = refl

  -- they have the same answer, and leave the same target
  pub alike_translates : (target : List ℕ) (answer answer' : Result ℕ (Refusal × Text)) (after after' : List ℕ)
      → Translates names script target answer after → Translates names' script' target answer' after' → (answer ≡ answer') × (after ≡ after')
  alike_translates target answer answer' after after' x y =
      let j : (Result ℕ (Refusal × Line)) = judged names script (length target) in
      let k : (Result ℕ (Refusal × Line)) = judged names' script' (length target) in (
        x.answers ∙ same_answer j k (alike_judged (length target)) ∙ sym y.answers,
        x.left ∙ rw alike_program (same_stored j k (program names' script') target (alike_judged (length target))) ∙ sym y.left,
      )

-- From what the passes leave to what the calls promise. Assumes nothing.
use Rattle.std.specs.Prelude.{Err, None, Ok, Option, Result, Some}
use mathlib.Core.Path.{◌≡◌, refl, sym, ap, ◌∙◌}
use mathlib.Core.Bool.{Bool, true, false}
use mathlib.Core.List.{List, [], ◌++◌}
use Prim.Native.Nat.{ℕ, ◌+◌, ◌-◌, ◌<◌, ◌≤◌}
use native.Mathlib.Nat.{zero-add}
use native.Mathlib.Omega.{arith}
use borrow.Author.Tests.{leb-true}
use lib.Dec.{leb, ltb}
use lib.ListN.{length, drop}
use lib.Seq.{sets-eq}
use Rattle.grammar.specs.Tokens.{lines, first_line, tokens}
use Rattle.grammar.specs.Sums.{Entry}
use Rattle.grammar.specs.Lines.{names_line}
use Rattle.grammar.specs.Texts.{noted, room_flaw, judged_as, names_flaw, script_flaw, names_fault, labels_given, script_fault, script_words, last_line, nowhere, line, program, judged, texts_fault, fault_of, given_names, given_all, number}
use denote.Ref.{Bor}
use Rattle.grammar.specs.Promises.{Translates}
use Rattle.grammar.specs.declared.Line.{Line}
use Rattle.grammar.specs.declared.Refusal.{Refusal}
use Rattle.grammar.specs.declared.Text.{Text}
use Rattle.tables.specs.Tables.{Table, table, entries, Chained, Headed, most}
use Rattle.tables.proofs.Laws.{entries_resplit, chained_resplit, headed_resplit, entries_are_few}
use Rattle.giving.specs.Passes.{NamesRead, LabelsRead, script_judged}
use Rattle.giving.proofs.Lines.{line_splits, line_inside, no_lines, by_lines}
use Rattle.writes.specs.Written.{written}
use Rattle.texts.specs.Reads.{TextsRead, Within}

-- the line of a fault stands in its text
module _ (names script : List ℕ) where
  abbrev FaultWithin : Option (Refusal × Line) → Type 0
  FaultWithin None = Unit {0}
  FaultWithin (Some (r, l)) = Within names script l

  either_within : (t : Bool) (r q : Refusal) (l k : Line) → Within names script l → Within names script k
      → FaultWithin (elim t as (λ _. Option (Refusal × Line)) [ true ↦ Some (r, l) | false ↦ Some (q, k) ])
  either_within true r q l k h g = h
  either_within false r q l k h g = g

  noted_within : (f : Option (Refusal × Line)) (w : Option Refusal) (l : Line) → FaultWithin f → Within names script l → FaultWithin (noted f w l)
  noted_within f None l h g = h
  noted_within None (Some r) l h g = g
  noted_within (Some (q, k)) (Some r) l h g = either_within (ltb (number r) (number q)) r q l k g h

  names_within : (at : ℕ) (es : List Entry) (f : Option (Refusal × Line)) → FaultWithin f → FaultWithin (names_fault es f at (lines (drop at names)))
  unfolding names_fault
  names_within =
      by_lines names (λ at. (es : List Entry) (f : Option (Refusal × Line)) → FaultWithin f → FaultWithin (names_fault es f at (lines (drop at names))))
      (λ at h es f g. rw (no_lines names at h) g)
      (λ at h later es f g. rw (line_splits names at h) (later _ _ (noted_within f (names_flaw es (names_line es (tokens (first_line (drop at names))))) (line Text.Names at (first_line (drop at names))) g (line_inside names at (omega arith)))))

  script_within : (at : ℕ) (all above : List Entry) (p : ℕ) (f : Option (Refusal × Line)) → FaultWithin f → FaultWithin (script_fault all above p f at (lines (drop at script)))
  unfolding script_fault
  script_within =
      by_lines script
      (λ at. (all above : List Entry) (p : ℕ) (f : Option (Refusal × Line)) → FaultWithin f → FaultWithin (script_fault all above p f at (lines (drop at script))))
      (λ at h all above p f g. rw (no_lines script at h) g)
      (λ at h later all above p f g. rw (line_splits script at h) (later _ _ _ _ (noted_within f (script_flaw all above (first_line (drop at script))) (line Text.Script at (first_line (drop at script))) g (line_inside script at (omega arith)))))

  last_within : (at : ℕ) (k : Line) → Within names script k → Within names script (last_line k at (lines (drop at script)))
  unfolding last_line
  last_within =
      by_lines script (λ at. (k : Line) → Within names script k → Within names script (last_line k at (lines (drop at script))))
      (λ at h k g. rw (no_lines script at h) g)
      (λ at h later k g. rw (line_splits script at h) (later _ (line_inside script at (omega arith))))

  fault_within : (room : ℕ) → FaultWithin (fault_of names script room)
  fault_within room =
      noted_within (texts_fault names script) (room_flaw (length (program names script)) room) (last_line nowhere 0 (lines script))
      (script_within 0 (given_all names script) (given_names names) 0 (names_fault [] None 0 (lines names)) (names_within 0 [] None tt))
      (last_within 0 nowhere (omega arith))

  fault_is : (f : Option (Refusal × Line)) (c : ℕ) (r : Refusal) (l : Line) → judged_as f c ≡ Err (r, l) → f ≡ Some (r, l)
  fault_is None c r l e = absurd (let z : ◌≡◌ {A = ℕ} 0 1 = cc in omega arith)
  fault_is (Some (q, k)) c r l e = cc

  -- a refused line stands in its text
  pub refused_within : (room : ℕ) (r : Refusal) (l : Line) → judged names script room ≡ Err (r, l) → Within names script l
  unfolding judged
  refused_within room r l e = rw (fault_is (fault_of names script room) (length (program names script)) r l e) at (fault_within room)

-- a text that is accepted fits its target
count_if : (t : Bool) (f : Option (Refusal × Line)) (l : Line) (c words : ℕ)
    → judged_as (noted f (elim t as (λ _. Option Refusal) [ true ↦ None | false ↦ Some Refusal.NoRoom ]) l) c ≡ Ok words → (t ≡ true) × (c ≡ words)
count_if true None l c words e = (refl, cc)
count_if true (Some (q, k)) l c words e = absurd (let z : ◌≡◌ {A = ℕ} 0 1 = cc in omega arith)
count_if false None l c words e = absurd (let z : ◌≡◌ {A = ℕ} 0 1 = cc in omega arith)
count_if false (Some (q, k)) l c words e = absurd (never (ltb (number Refusal.NoRoom) (number q)) e)
  where
    never : (t : Bool) → judged_as (elim t as (λ _. Option (Refusal × Line)) [ true ↦ Some (Refusal.NoRoom, l) | false ↦ Some (q, k) ]) c ≡ Ok words → ⊥
    never true z = let x : ◌≡◌ {A = ℕ} 0 1 = cc in omega arith
    never false z = let x : ◌≡◌ {A = ℕ} 0 1 = cc in omega arith

pub fine_fits : (f : Option (Refusal × Line)) (l : Line) (c room words : ℕ) → judged_as (noted f (room_flaw c room) l) c ≡ Ok words → (c ≤ room) × (c ≡ words)
fine_fits f l c room words e =
    let h = count_if (leb c room) f l c words e in
    (leb-true c room h.0, h.1)

-- words written from the first place on
pub written_first : (target out vs : List ℕ) → out ≡ written target 0 vs → length vs ≤ length target → out ≡ vs ++ drop (length vs) target
unfolding written
written_first target out vs e h = e ∙ sets-eq vs target 0 (omega arith) ∙ rw zero-add

-- both texts, from the names and then the labels
pub texts_read : (names script : List ℕ) (n r : ℕ) (f : Option (Refusal × Line)) (a b c d heads a' b' c' d' heads' : List ℕ)
    → NamesRead (table names script most a b c d) heads names n f
    → LabelsRead (table names script n a b c d) (table names script n a' b' c' d') n heads' script r
    → TextsRead (table names script n a' b' c' d') heads' n r f
texts_read names script n r f a b c d heads a' b' c' d' heads' x y =
    let few : n ≤ most = entries_are_few (table names script most a b c d) n x.chained in
    let same = entries_resplit names script most n a b c d n few (omega arith) in
    let named : entries (table names script n a b c d) n ≡ given_names names = sym same ∙ x.given in
    record {
      named = y.stay ∙ named;
      all = y.given ∙ ap (λ (es : List Entry). labels_given es 0 (lines script)) named;
      faulty = x.fault;
      grows = y.grows;
      chained = y.chained;
      headed = y.headed;
    }

-- what both texts come to
pub texts_judged : (t : Table) (heads : List ℕ) (split filled : ℕ) (before : Option (Refusal × Line)) (room : ℕ) (r : Result ℕ (Refusal × Line)) → TextsRead t heads split filled before
    → r ≡ script_judged t split filled t.script before room → r ≡ judged t.names t.script room
unfolding judged program
texts_judged t heads split filled before room r x e = e ∙ rw (x.all, x.named, x.faulty)

-- what the labels' pass asks, from what the names' pass leaves
module _ (names script : List ℕ) (n : ℕ) (f : Option (Refusal × Line)) (a b c d heads : List ℕ) (x : NamesRead (table names script most a b c d) heads names n f) where
  few_names : n ≤ most
  few_names = entries_are_few (table names script most a b c d) n x.chained

  pub names_chained : Chained (table names script n a b c d) n
  names_chained = chained_resplit names script most n a b c d n few_names (omega arith) x.chained

  pub names_headed : Headed (table names script n a b c d) n heads
  names_headed = headed_resplit names script most n a b c d n few_names (omega arith) heads x.headed

-- what the judging and storing passes ask, and what they leave
module _ (t : Table) (heads : List ℕ) (split filled : ℕ) (before : Option (Refusal × Line)) (x : TextsRead t heads split filled before) where
  program_is : script_words (entries t filled) (lines t.script) ≡ program t.names t.script
  unfolding program
  program_is = rw x.all

  module _ (target : List ℕ) (j : Result ℕ (Refusal × Line)) (e : j ≡ script_judged t split filled t.script before (length target)) where
    pub words_fit : (words : ℕ) → j ≡ Ok words → length (script_words (entries t filled) (lines t.script)) ≤ length target
    words_fit words h = (fine_fits _ _ _ (length target) words (sym e ∙ h)).0

    pub refused_translates : (r : Refusal) (l : Line) → j ≡ Err (r, l) → Translates t.names t.script target (Err (r, l.text)) target
    refused_translates r l h =
        let k : judged t.names t.script (length target) ≡ Err (r, l) = sym (texts_judged t heads split filled before (length target) j x e) ∙ h in
        record { answers = rw k; numbered = rw k; counted = rw k; told = rw k; left = rw k }

    pub fine_translates : (words : ℕ) (after : List ℕ) → j ≡ Ok words → after ≡ written target 0 (script_words (entries t filled) (lines t.script))
        → Translates t.names t.script target (Ok words) after
    fine_translates words after h w =
        let k : judged t.names t.script (length target) ≡ Ok words = sym (texts_judged t heads split filled before (length target) j x e) ∙ h in
        record {
          answers = rw k;
          numbered = rw k;
          counted = rw k;
          told = rw k;
          left = rw k (rw (← program_is) (written_first target after (script_words (entries t filled) (lines t.script)) w (words_fit words h)));
        }

-- the refused line, as the part that it is
module _ (names script : Bor (List ℕ)) (room : ℕ) (j : Result ℕ (Refusal × Line)) (e : j ≡ judged names.now script.now room) where
  pub line_within : (r : Refusal) (l : Line) → j ≡ Err (r, l) → Within names.now script.now l
  line_within r l h = refused_within names.now script.now room r l (sym e ∙ h)

-- where a line ends
pub within_fits : (names script : List ℕ) (l : Line) (m : ℕ) → Within names script l → length names < m → length script < m → l.from + l.count < m
within_fits names script l m h a b = go l.text refl
  where
    go : (t : Text) → l.text ≡ t → l.from + l.count < m
    go Text.Names e = let k : l.from + l.count ≤ length names = rw e at h in omega arith
    go Text.Script e = let k : l.from + l.count ≤ length script = rw e at h in omega arith

pub within_names : (names script : List ℕ) (l : Line) → Within names script l → l.text ≡ Text.Names → l.from + l.count ≤ length names
within_names names script l h e = rw e at h

pub within_script : (names script : List ℕ) (l : Line) → Within names script l → l.text ≡ Text.Script → l.from + l.count ≤ length script
within_script names script l h e = rw e at h

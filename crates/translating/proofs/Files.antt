-- Laws of Files. Assumes nothing.
use Rattle.std.specs.Prelude.{Err, Ok, Result}
use mathlib.Core.Path.{◌≡◌, refl, sym, ◌∙◌}
use mathlib.Core.List.{List}
use Prim.Native.Nat.{ℕ, ◌+◌, ◌-◌, ◌≤◌}
use native.Mathlib.Omega.{arith}
use lib.ListN.{length, length-append}
use Rattle.grammar.specs.Tokens.{lines}
use Rattle.grammar.specs.Texts.{judged, answered, stored, texts_fault, last_line, nowhere, program, part_of}
use Rattle.grammar.specs.Promises.{Translates}
use Rattle.grammar.specs.declared.Line.{Line}
use Rattle.grammar.specs.declared.Refusal.{Refusal}
use Rattle.grammar.specs.declared.Text.{Text}
use Rattle.tokens.specs.Shown.{part}
use Rattle.texts.proofs.Laws.{fine_fits, refused_within}
use Rattle.texts.specs.Reads.{Within}
use Rattle.outside.specs.Reasons.{Fits, Lies}
use Rattle.outside.specs.declared.Reason.{Reason}

-- the word of a reason
module _ (l : List ℕ) (r : Reason) (from to : ℕ) where
  pub kept_lies : r ≡ Reason.KeptWord from to → Fits l r → Lies l from to
  kept_lies e h = rw e at h

  pub later_lies : r ≡ Reason.LaterOrder from to → Fits l r → Lies l from to
  later_lies e h = rw e at h

  pub twice_lies : r ≡ Reason.GivenTwice from to → Fits l r → Lies l from to
  twice_lies e h = rw e at h

  pub missing_lies : r ≡ Reason.NotGiven from to → Fits l r → Lies l from to
  missing_lies e h = rw e at h

-- the refused line as a part of its text
module _ (names script : List ℕ) (l : Line) (q : Reason) where
  there : l.from + l.count - l.from ≡ l.count
  there = omega arith

  pub names_fits : l.text ≡ Text.Names → Fits (part_of l names script) q → Fits (part names l.from (l.from + l.count)) q
  names_fits e h = rw there (rw e at h)

  pub script_fits : l.text ≡ Text.Script → Fits (part_of l names script) q → Fits (part script l.from (l.from + l.count)) q
  script_fits e h = rw there (rw e at h)

-- the refused line lies in its text
pub judged_within : (names script : List ℕ) (room : ℕ) (j : Result ℕ (Refusal × Line)) (r : Refusal) (l : Line) → j ≡ judged names script room → j ≡ Err (r, l) → Within names script l
judged_within names script room j r l e k = refused_within names script room r l (sym e ∙ k)

-- an accepted program lies in its target
module _ (names script target after : List ℕ) (n : ℕ) where
  fits_by : (j : Result ℕ (Refusal × Line)) → judged names script (length target) ≡ j → answered j ≡ Ok n → after ≡ stored j (program names script) target → n ≤ length after
  unfolding judged
  fits_by (Ok c) e k s =
      let p = fine_fits (texts_fault names script) (last_line nowhere 0 (lines script)) (length (program names script)) (length target) c e in
      let q : c ≡ n = cc in
      rw (s, length-append) (omega (arith, p.1, q))
  fits_by (Err (r, l)) e k s = let z : ◌≡◌ {A = ℕ} 0 1 = cc in absurd (omega arith)

  pub words_fit : (a : Result ℕ (Refusal × Text)) → Translates names script target a after → a ≡ Ok n → n ≤ length after
  words_fit a t e = fits_by (judged names script (length target)) refl (sym t.answers ∙ e) t.left

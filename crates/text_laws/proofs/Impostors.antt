-- Wrong translators, each ruled out by what is promised, on a small text by computation. Assumes nothing.
use Rattle.std.specs.Prelude.{Err, Ok, Result}
use mathlib.Core.Path.{◌≡◌, refl}
use mathlib.Core.List.{List, [], ◌∷◌, ◌++◌}
use Prim.Native.Nat.{ℕ}
use native.Mathlib.Omega.{arith}
use lib.ListN.{length, drop}
use Rattle.grammar.specs.Tokens.{bytes, lines, first_line, tokens_on, tokens, same}
use Rattle.grammar.specs.Kept.{kept_words, kept_in, kept_as}
use Rattle.grammar.specs.Sums.{find, decimal, sum, product, term, sum_of}
use Rattle.grammar.specs.Lines.{names_line, label_of, size_of, register, given}
use Rattle.grammar.specs.Texts.{names_given, names_fault, labels_given, script_fault, script_words, last_line, program, judged, answered, line}
use Rattle.grammar.specs.Promises.{Translates}
use Rattle.grammar.specs.declared.Refusal.{Refusal}
use Rattle.grammar.specs.declared.Text.{Text}

-- what three small texts come to, for a target of one word
pub record Small : Type 0 where
  pub word : judged [] (bytes "1\n") 1 ≡ Ok 1
  pub missing : judged [] (bytes "1\nx\n") 1 ≡ Err (Refusal.NameFault, line Text.Script 2 (bytes "x"))
  pub words_of_missing : program [] (bytes "1\nx\n") ≡ 1 ∷ []
  pub two_faults : judged [] (bytes "x\n+\n") 1 ≡ Err (Refusal.OutsideGrammar, line Text.Script 2 (bytes "+"))

small : Small
unfolding bytes lines first_line tokens_on tokens same kept_words kept_in kept_as find decimal sum product term sum_of names_line label_of size_of register given names_given names_fault labels_given script_fault script_words last_line program judged
small = record { word = refl; missing = refl; words_of_missing = refl; two_faults = refl }

-- a translator, and that it does what is promised for all texts and targets
abbrev pub Translator : Type 0
Translator = List ℕ → List ℕ → List ℕ → (Result ℕ (Refusal × Text)) × List ℕ

abbrev pub Keeps : Translator → Type 0
Keeps f = (names script target : List ℕ) → Translates names script target (f names script target).0 (f names script target).1

-- it answers 0 words and stores none: `1` is a word
abbrev pub idle : Translator
idle names script target = (Ok 0, target)

pub not_idle : Keeps idle → ⊥
not_idle k = let e : ◌≡◌ {A = ℕ} 0 1 = rw small.word at (k [] (bytes "1\n") (0 ∷ [])).counted in omega arith

-- it refuses all with 13: `1` stands in the grammar
abbrev pub refuser : Translator
refuser names script target = (Err (Refusal.OutsideGrammar, Text.Script), target)

pub not_refuser : Keeps refuser → ⊥
not_refuser k = let e : ◌≡◌ {A = ℕ} 13 0 = rw small.word at (k [] (bytes "1\n") (0 ∷ [])).numbered in omega arith

-- it answers right, and writes words before it refuses: `1` is not to be written where a name after it is not given
abbrev pub hasty : Translator
hasty names script target =
    (answered (judged names script (length target)), program names script ++ drop (length (program names script)) target)

pub not_hasty : Keeps hasty → ⊥
not_hasty k =
    let e : ◌≡◌ {A = List ℕ} (1 ∷ []) (0 ∷ []) = rw (small.missing, small.words_of_missing) at (k [] (bytes "1\nx\n") (0 ∷ [])).left in
    let z : ◌≡◌ {A = ℕ} 1 0 = cc in
    omega arith

-- it refuses for the first line that has something wrong, with 14, though a later one has 13
pub not_first_wrong : (after : List ℕ) → Translates [] (bytes "x\n+\n") (0 ∷ []) (Err (Refusal.NameFault, Text.Script)) after → ⊥
not_first_wrong after k = let e : ◌≡◌ {A = ℕ} 14 13 = rw small.two_faults at k.numbered in omega arith

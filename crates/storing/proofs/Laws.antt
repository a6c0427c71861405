-- What a line stores, and what the lines so far have stored. Assumes nothing.
use Rattle.std.specs.Prelude.{ℕ}
use mathlib.Core.Path.{◌≡◌, refl, sym, ap, ◌∙◌}
use mathlib.Core.List.{List, [], ◌∷◌, ◌++◌}
use Prim.Native.Nat.{ℕ, ◌+◌, ◌<◌, ◌≤◌}
use native.Mathlib.Omega.{arith}
use lib.ListN.{length, drop, length-append}
use Rattle.grammar.specs.Tokens.{tokens, lines, first_line}
use Rattle.grammar.specs.Sums.{Entry}
use Rattle.grammar.specs.Lines.{body_of, given, line_words}
use Rattle.grammar.specs.Texts.{script_words}
use Rattle.tokens.specs.Shown.{part}
use Rattle.giving.proofs.Lines.{line_splits, line_is_part}
use Rattle.writes.specs.Written.{written, written_none, written_on, written_length}

-- the next line of the script
next_line : (script : List ℕ) (at count : ℕ) → at < length script → count ≡ length (first_line (drop at script)) →
    lines (drop at script) ≡ part script at (at + count) ∷ lines (drop (at + count + 1) script)
next_line script at count h e =
    rw e (line_splits script at h ∙ ap (λ (l : List ℕ). l ∷ lines (drop (at + length (first_line (drop at script)) + 1) script)) (sym (line_is_part script at _ refl)))

-- the lines before a place have given k words, which are stored; `target` is to hold all of them
pub record SoFar (all : List Entry) (script before target : List ℕ) (k at : ℕ) : Type 0 where
  pub counted : k + length (script_words all (lines (drop at script))) ≡ length (script_words all (lines script))
  pub kept : written target k (script_words all (lines (drop at script))) ≡ written before 0 (script_words all (lines script))
  pub long : length target ≡ length before

module _ (all : List Entry) (script before : List ℕ) where
  module _ (target : List ℕ) (k at : ℕ) (so : SoFar all script before target k at) where
    pub all_so_far : lines (drop at script) ≡ [] → target ≡ written before 0 (script_words all (lines script))
    unfolding script_words
    all_so_far ends = sym (written_none target k) ∙ ap (λ (ls : List (List ℕ)). written target k (script_words all ls)) (sym ends) ∙ so.kept

    module _ (count : ℕ) (h : at < length script) (is : count ≡ length (first_line (drop at script))) where
      here : List ℕ
      here = line_words (given all (body_of (tokens (part script at (at + count)))))

      both : script_words all (lines (drop at script)) ≡ here ++ script_words all (lines (drop (at + count + 1) script))
      unfolding script_words here
      both = ap (script_words all) (next_line script at count h is)

      counts : length (script_words all (lines (drop at script))) ≡ length here + length (script_words all (lines (drop (at + count + 1) script)))
      counts = ap length both ∙ length-append here (script_words all (lines (drop (at + count + 1) script)))

      pub line_fits : length (script_words all (lines script)) ≤ length before →
          k + length (line_words (given all (body_of (tokens (part script at (at + count)))))) ≤ length target
      unfolding here
      line_fits room = omega (arith, counts, so.counted, so.long)

      pub one_line_more : (out : List ℕ) (r : ℕ) → r ≡ k + length (line_words (given all (body_of (tokens (part script at (at + count)))))) →
          out ≡ written target k (line_words (given all (body_of (tokens (part script at (at + count)))))) → SoFar all script before out r (at + count + 1)
      unfolding here
      one_line_more out r after kept =
          record {
            counted = omega (arith, counts, so.counted);
            kept =
                (λ i. written (kept i) (after i) (script_words all (lines (drop (at + count + 1) script)))) ∙
                written_on target k here (script_words all (lines (drop (at + count + 1) script))) ∙ ap (written target k) (sym both) ∙ so.kept;
            long = ap length kept ∙ written_length target k here ∙ so.long;
          }

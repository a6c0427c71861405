-- The lines of the script, read for their labels: what one line gives, and what the lines so far do. Assumes nothing.
use Rattle.std.specs.Prelude.{Option, Some, ℕ}
use mathlib.Core.Path.{◌≡◌, refl, sym, ap, ◌∙◌}
use mathlib.Core.List.{List, ◌∷◌}
use Prim.Native.Nat.{ℕ, ◌+◌, ◌-◌, ◌*◌, ◌<◌, ◌≤◌, min}
use native.Mathlib.Omega.{arith}
use borrow.Author.Tests.{le-ltb}
use lib.ListN.{length, drop, take}
use Rattle.grammar.specs.Tokens.{lines, first_line}
use Rattle.grammar.specs.Sums.{Entry, end_of_range}
use Rattle.grammar.specs.Lines.{size_of}
use Rattle.grammar.specs.Texts.{give, labels_given}
use Rattle.tokens.specs.Shown.{part, shown}
use Rattle.tokens.specs.declared.Token.{Token}
use Rattle.tables.specs.Tables.{Table, table, entries, text_at, Chained, Headed}
use Rattle.tables.proofs.Laws.{earlier_entries}
use Rattle.phrases.specs.Phrases.{Starts}
use Rattle.giving.proofs.Lines.{line_splits, line_is_part, no_lines, Stands, word_stands, word_in_text}
use Rattle.giving.specs.Passes.{GiveMade, LabelRead, LabelsRead}

-- a label stands in the script, as its entry does
pub label_stands : (script : List ℕ) (at end : ℕ) → (at ≤ end) × (end ≤ length script) → {label : Option (ℕ × ℕ)} {body : Token} → Starts (part script at end) label body →
    {from to : ℕ} → label ≡ Some (from, to) → Stands script at end from to
label_stands script at end inside starts {from} {to} e = word_stands script at end from to inside (rw e at starts.label_inside)

pub label_read : (names script : List ℕ) (split : ℕ) (froms counts values nexts : List ℕ) (u : Table) (n : ℕ) (heads : List ℕ) (at end place : ℕ) → split ≤ n →
    {label : Option (ℕ × ℕ)} {body : Token} → Starts (part script at end) label body → {from to : ℕ} → label ≡ Some (from, to) → Stands script at end from to →
    (count : ℕ) → count ≡ size_of (shown (part script at end) body) → count ≤ 2 → (value more : ℕ) → value ≡ min place end_of_range →
    GiveMade (table names script split froms counts values nexts) u n heads (at + from) (to - from) value more →
    LabelRead (table names script split froms counts values nexts) u n heads (part script at end) place more (place + count)
label_read names script split froms counts values nexts u n heads at end place after starts {from} {to} e stands count size few value more v made =
    let es : List Entry = entries (table names script split froms counts values nexts) n in
    let word : take (to - from) (drop (at + from) (text_at names script split n)) ≡ part (part script at end) from to =
    rw (le-ltb n split after, text_at) (word_in_text script at end from to stands)
    in
    record {
      given = rw (starts.labelled, e) (made.made ∙ ap (λ (w : List ℕ). give es w value) word ∙ ap (give es (part (part script at end) from to)) v);
      counted = rw starts.follows (ap (λ (k : ℕ). place + k) size);
      few = omega arith;
      stay = made.stay;
      grows = made.grows;
      chained = made.chained;
      headed = made.headed;
    }

-- the lines so far: with the lines from a place on they give the labels that all lines do, and they have few words
pub record LabelsPassed (t₀ t : Table) (split : ℕ) (heads script : List ℕ) (n place at : ℕ) : Type 0 where
  pub given : labels_given (entries t n) place (lines (drop at script)) ≡ labels_given (entries t₀ split) 0 (lines script)
  pub stay : entries t split ≡ entries t₀ split
  pub grows : split ≤ n
  pub few : place ≤ 2 * at
  pub chained : Chained t n
  pub headed : Headed t n heads

pub no_label_passed : (t : Table) (split : ℕ) (heads script : List ℕ) → Chained t split → Headed t split heads → LabelsPassed t t split heads script split 0 0
no_label_passed t split heads script chained headed =
    record { given = refl; stay = refl; grows = omega arith; few = omega arith; chained = chained; headed = headed }

pub label_passed : (t₀ t u : Table) (split : ℕ) (heads after script : List ℕ) (n r place next at count : ℕ) → LabelsPassed t₀ t split heads script n place at → at < length script →
    count ≡ length (first_line (drop at script)) → LabelRead t u n after (part script at (at + count)) place r next →
    LabelsPassed t₀ u split after script r next (at + count + 1)
unfolding labels_given
label_passed t₀ t u split heads after script n r place next at count passed h e read =
    let l : List ℕ = first_line (drop at script) in
    let is : part script at (at + count) ≡ l = line_is_part script at (at + count) (omega arith) in
    let splits : lines (drop at script) ≡ l ∷ lines (drop (at + length l + 1) script) = line_splits script at h in
    record {
      given = rw (read.given, read.counted, is, e) (rw splits at passed.given);
      stay =
          sym (earlier_entries u split n passed.grows) ∙ ap (drop (n - split)) read.stay ∙ earlier_entries t split n passed.grows ∙ passed.stay;
      grows = omega (arith, passed.grows, read.grows);
      few = omega (arith, passed.few, read.few);
      chained = read.chained;
      headed = read.headed;
    }

pub labels_passed : (t₀ t : Table) (split : ℕ) (heads script : List ℕ) (n place at : ℕ) → LabelsPassed t₀ t split heads script n place at → length script ≤ at →
    LabelsRead t₀ t split heads script n
unfolding labels_given
labels_passed t₀ t split heads script n place at passed h =
    record {
      given = rw (no_lines script at h) at passed.given;
      stay = passed.stay;
      grows = passed.grows;
      chained = passed.chained;
      headed = passed.headed;
    }

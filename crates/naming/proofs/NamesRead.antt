-- The lines of the names: what one line gives, and what the lines so far do. Assumes nothing.
use Rattle.std.specs.Prelude.{None, Option, Result, Some}
use mathlib.Core.Path.{◌≡◌, refl, sym, ap, ◌∙◌}
use mathlib.Core.Bool.{Bool, true, false}
use mathlib.Core.List.{List, [], ◌∷◌}
use Prim.Native.Nat.{ℕ, ◌+◌, ◌-◌, ◌<◌, ◌≤◌}
use native.Mathlib.Omega.{arith}
use borrow.Author.Tests.{ltb-true, lt-ltb}
use lib.Dec.{ltb}
use lib.ListN.{length, drop, take}
use Rattle.grammar.specs.Tokens.{tokens, lines, first_line}
use Rattle.grammar.specs.Sums.{Entry}
use Rattle.grammar.specs.Lines.{names_line}
use Rattle.grammar.specs.Texts.{give, give_flaw, worked_flaw, kept_value, lower, names_given, names_fault, noted, line}
use Rattle.grammar.specs.declared.Line.{Line}
use Rattle.grammar.specs.declared.NoValue.{NoValue}
use Rattle.grammar.specs.declared.Refusal.{Refusal}
use Rattle.grammar.specs.declared.Text.{Text}
use Rattle.tokens.specs.Shown.{part}
use Rattle.tables.specs.Tables.{Table, table, entries, text_at, Chained, Headed, most}
use Rattle.tables.proofs.Laws.{entries_count}
use Rattle.phrases.specs.Phrases.{shown_names, NamesInside}
use Rattle.phrases.specs.declared.NamesLine.{NamesLine}
use Rattle.giving.proofs.Lines.{line_splits, line_is_part, no_lines, part_count, Stands, word_stands, word_in_text}
use Rattle.giving.specs.Passes.{GiveMade, NameRead, NamesRead}

-- the line from a place to another, as the code has it and as the definitions do
abbrev pub here : ℕ → ℕ → Line
here at end = record { text = Text.Names; from = at; count = end - at }

same_line : (names : List ℕ) (at end : ℕ) → at ≤ end → end ≤ length names → here at end ≡ line Text.Names at (part names at end)
same_line names at end le h = ap (λ (n : ℕ). record { text = Text.Names; from = at; count = n }) (sym (part_count names at end le h))

-- what is given to a full table is not kept, whatever its word is
give_alike : (es : List Entry) (w x : List ℕ) (v : ℕ) → (length es < most → w ≡ x) → give es w v ≡ give es x v
give_alike es w x v alike = go (ltb (length es) most) refl
  where
    go : (b : Bool) → ltb (length es) most ≡ b → give es w v ≡ give es x v
    go true e = rw (alike (ltb-true (length es) most e))
    go false e = rw (e, give)

-- one line of the names
abbrev pub LineShown : Table → ℕ → List ℕ → Option NamesLine → Type 0
LineShown t n l r = names_line (entries t n) (tokens l) ≡ shown_names l r

-- a name that a line gives stands in the names, where an entry has it unless the table is full
pub name_stands : (names : List ℕ) (at end : ℕ) → (at ≤ end) × (end ≤ length names) → (r : Option NamesLine) → NamesInside (part names at end) r →
    {from to : ℕ} {v : Result ℕ NoValue} → r ≡ Some (NamesLine.Gives from to v) → Stands names at end from to
name_stands names at end inside r stands {from} {to} e = word_stands names at end from to inside (rw e at stands)

pub name_read : (names script : List ℕ) (froms counts values nexts : List ℕ) (u : Table) (n : ℕ) (heads : List ℕ) (at end : ℕ) (before : Option (Refusal × Line)) →
    (r : Option NamesLine) → LineShown (table names script most froms counts values nexts) n (part names at end) r →
    {from to : ℕ} {v : Result ℕ NoValue} → r ≡ Some (NamesLine.Gives from to v) → Stands names at end from to → (at ≤ end) × (end ≤ length names) →
    (again worked flaw : Option Refusal) → again ≡ give_flaw (entries (table names script most froms counts values nexts) n) (part (part names at end) from to) →
    worked ≡ worked_flaw v → flaw ≡ lower again worked → (value more : ℕ) → value ≡ kept_value v →
    GiveMade (table names script most froms counts values nexts) u n heads (at + from) (to - from) value more →
    (after : Option (Refusal × Line)) → after ≡ noted before flaw (here at end) → NameRead (table names script most froms counts values nexts) u n heads at (part names at end) before more after
name_read names script froms counts values nexts u n heads at end before r shown {from} {to} {v} e stands inside again worked flaw p q s value more k made after noting =
    let t : Table = table names script most froms counts values nexts in
    let is : LineShown t n (part names at end) (Some (NamesLine.Gives from to v)) = shown ∙ ap (shown_names (part names at end)) e in
    let w : List ℕ = part (part names at end) from to in
    record {
      given =
          rw is
          (made.made ∙ ap (give (entries t n) (take (to - from) (drop (at + from) (text_at names script most n)))) k ∙ give_alike (entries t n) _ w (kept_value v)
          (λ h. rw (lt-ltb n most (omega (arith, entries_count t n)), text_at) (word_in_text names at end from to stands)));
      fault =
          rw is
          (noting ∙ ap (λ (f : Option Refusal). noted before f (here at end)) (s ∙ ap (lower again) q ∙ ap (λ (f : Option Refusal). lower f (worked_flaw v)) p) ∙ ap (noted before (lower (give_flaw (entries t n) w) (worked_flaw v))) (same_line names at end inside.0 inside.1));
      chained = made.chained;
      headed = made.headed;
    }

-- the lines so far: with the lines from a place on they give what all lines do
pub record NamesPassed (t : Table) (heads names : List ℕ) (n : ℕ) (before : Option (Refusal × Line)) (at : ℕ) : Type 0 where
  pub given : names_given (entries t n) (lines (drop at names)) ≡ names_given [] (lines names)
  pub fault : names_fault (entries t n) before at (lines (drop at names)) ≡ names_fault [] None 0 (lines names)
  pub chained : Chained t n
  pub headed : Headed t n heads

pub no_name_passed : (t : Table) (heads names : List ℕ) → Chained t 0 → Headed t 0 heads → NamesPassed t heads names 0 None 0
unfolding entries
no_name_passed t heads names chained headed = record { given = refl; fault = refl; chained = chained; headed = headed }

pub name_passed : (t u : Table) (heads after names : List ℕ) (n r : ℕ) (f g : Option (Refusal × Line)) (at count : ℕ) → NamesPassed t heads names n f at → at < length names →
    count ≡ length (first_line (drop at names)) → NameRead t u n after at (part names at (at + count)) f r g → NamesPassed u after names r g (at + count + 1)
unfolding names_given names_fault
name_passed t u heads after names n r f g at count passed h e read =
    let l : List ℕ = first_line (drop at names) in
    let is : part names at (at + count) ≡ l = line_is_part names at (at + count) (omega arith) in
    let splits : lines (drop at names) ≡ l ∷ lines (drop (at + length l + 1) names) = line_splits names at h in
    record {
      given = rw (read.given, is, e) (rw splits at passed.given);
      fault = rw (read.fault, read.given, is, e) (rw splits at passed.fault);
      chained = read.chained;
      headed = read.headed;
    }

pub names_passed : (t : Table) (heads names : List ℕ) (n : ℕ) (f : Option (Refusal × Line)) (at : ℕ) → NamesPassed t heads names n f at → length names ≤ at → NamesRead t heads names n f
unfolding names_given names_fault
names_passed t heads names n f at passed h =
    let none : lines (drop at names) ≡ [] = no_lines names at h in
    record { given = rw none at passed.given; fault = rw none at passed.fault; chained = passed.chained; headed = passed.headed }

-- The part of a text where a line stands is that line. Assumes nothing.
use Rattle.std.specs.Prelude.{◌≡◌, Bool, eqb, get_or, Err}
use Rattle.std.proofs.Math.Path.{refl}
use Rattle.std.proofs.Common.{ap, sym, ◌∙◌, drop_at}
use Rattle.std.proofs.Math.Bool.{true, false}
use mathlib.Core.List.{List, [], ◌∷◌, ◌++◌, append_assoc}
use Prim.Native.Nat.{ℕ, zero, suc, ◌+◌, ◌<◌}
use native.Mathlib.Omega.{arith}
use Rattle.std.proofs.Math.ListN.{length, take, drop, length-append}
use Rattle.grammar.specs.Tokens.{lines, line_end, joined}
use Rattle.grammar.specs.Texts.{next, nowhere, text_of, part_of, judged}
use Rattle.grammar.specs.declared.Line.{Line}
use Rattle.grammar.specs.declared.Refusal.{Refusal}
use Rattle.grammar.specs.declared.Text.{Text}
use Rattle.text_laws.specs.Lined.{placed, numbered, SameLine}
use Rattle.text_laws.specs.Alike.{placed_text, alike_judged}

-- the part of a whole text where a line stands
abbrev part : List ℕ → Line → List ℕ
part whole l = take l.count (drop l.from whole)

-- the lines after the first `at` bytes of a whole text stand in it
abbrev Stand : Text → List ℕ → ℕ → List (List ℕ) → Type 0
Stand t whole at ls = (i : ℕ) → i < length ls → part whole (get_or (placed t at ls) i nowhere) ≡ get_or ls i []

module _ (t : Text) where
  all_stand : (before after : List ℕ) (at : ℕ) → length before ≡ at → Stand t (before ++ after) at (lines after)
  unfolding lines
  all_stand before [] at e = λ i h. absurd (omega arith)
  all_stand before (b ∷ bs) at e =
      let n : length (before ++ (b ∷ [])) ≡ at + 1 = omega (arith, length-append before (b ∷ [])) in
      let later : Stand t (before ++ (b ∷ bs)) (at + 1) (lines bs) = rw (append_assoc before (b ∷ []) bs) at (all_stand (before ++ (b ∷ [])) bs (at + 1) n) in
      go (eqb b line_end) (lines bs) later
    where
      go : (x : Bool) (ls : List (List ℕ)) → Stand t (before ++ (b ∷ bs)) (at + 1) ls → Stand t (before ++ (b ∷ bs)) at (elim x as (λ _. List (List ℕ)) [ true ↦ [] ∷ ls | false ↦ joined b ls ])
      go true ls later zero h = refl
      go true ls later (suc i) h = let n : next at [] ≡ at + 1 = omega arith in rw n (later i (omega arith))
      go false [] later zero h = rw (drop_at before (b ∷ bs) at e)
      go false [] later (suc i) h = absurd (omega arith)
      go false (l ∷ ls) later zero h =
          let n : length (before ++ (b ∷ [])) ≡ at + 1 = omega (arith, length-append before (b ∷ [])) in
          let d : drop (at + 1) (before ++ (b ∷ bs)) ≡ bs = rw (append_assoc before (b ∷ []) bs) at (drop_at (before ++ (b ∷ [])) bs (at + 1) n) in
          let first : take (length l) bs ≡ l = rw d at (later 0 (omega arith)) in
          rw (drop_at before (b ∷ bs) at e, first)
      go false (l ∷ ls) later (suc i) h = let n : next at (b ∷ l) ≡ next (at + 1) l = omega arith in rw n (later (suc i) (omega arith))

-- the bytes of a line of a text, by its number
pub line_is_its_bytes : (names script : List ℕ) (t : Text) (i : ℕ) → i < length (lines (text_of t names script))
    → part_of (numbered names script t i) names script ≡ get_or (lines (text_of t names script)) i []
line_is_its_bytes names script t i h =
    ap (λ u. take (numbered names script t i).count (drop (numbered names script t i).from (text_of u names script))) (placed_text t 0 (lines (text_of t names script)) i h)
    ∙ all_stand t [] (text_of t names script) 0 refl i h

-- a refused line is one of the lines of its text
pub refused_is_a_line : (names script : List ℕ) (room : ℕ) (r : Refusal) (l : Line) → judged names script room ≡ Err (r, l)
    → (i : ℕ) × (i < length (lines (text_of l.text names script))) × (l ≡ numbered names script l.text i) × (part_of l names script ≡ get_or (lines (text_of l.text names script)) i [])
refused_is_a_line names script room r l e =
    let x : SameLine names script names script l l = (rw e at (alike_judged names script names script (record { in_names = refl; in_script = refl }) room)).1 in
    let t : l.text ≡ x.text = ap (λ (k : Line). k.text) x.is ∙ placed_text x.text 0 (lines (text_of x.text names script)) x.number x.within in (
      x.number,
      rw t x.within,
      x.is ∙ ap (λ u. numbered names script u x.number) (sym t),
      ap (λ (k : Line). part_of k names script) x.is ∙ line_is_its_bytes names script x.text x.number x.within ∙ ap (λ u. get_or (lines (text_of u names script)) x.number []) (sym t),
    )

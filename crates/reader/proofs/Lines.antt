-- How far the first line of a text goes. Assumes nothing.
use Rattle.std.proofs.Common.{◌≡◌, ℕ, ◌+◌, ◌≤◌, Bool, true, false, cond, List, [], ◌∷◌, length, refl, sym, ◌∙◌, ⊎_elim, arith, ltb, lt-ltb, le-ltb, eqb}
use Rattle.std.specs.Prelude.{◌==◌, position, Some, None}
use Rattle.std.specs.Option.{unwrap_or}
use Rattle.std.specs.List.{position_or_len}
use Rattle.std.proofs.lemmas.List.Recursion.{is_position_or_len}
use Rattle.std.proofs.lemmas.List.Sums.{prefix_len-le-length}
use Rattle.std.proofs.str.Laws.{order}
use Rattle.grammar.specs.Tokens.{first_line, line_end}

-- the first line goes up to the first byte that ends a line, or to the text's end
line_count : (text : List ℕ) → length (first_line text) ≡ position_or_len (λ b. b == line_end) text
unfolding first_line
line_count text = is_position_or_len (λ t. length (first_line t)) (λ b. b == line_end) refl (λ b t. go (eqb b line_end) b t) text
  where
    go : (c : Bool) (b : ℕ) (t : List ℕ) → length (elim c as (λ _. List ℕ) [ true ↦ [] | false ↦ b ∷ first_line t ]) ≡ cond c 0 (1 + length (first_line t))
    go true b t = refl
    go false b t = omega arith

-- a place that is found or else the end
found_or_end : (n m : ℕ) → n ≤ m → unwrap_or (cond (ltb n m) (Some n) None) m ≡ n
found_or_end n m h = ⊎_elim (λ g. rw (lt-ltb n m g)) (λ g. rw (le-ltb n m g) (omega arith)) (order n m)

pub line_position : (text : List ℕ) → unwrap_or (position (λ b. b == line_end) text) (length text) ≡ length (first_line text)
line_position text = found_or_end _ _ (prefix_len-le-length _ text) ∙ sym (line_count text)
